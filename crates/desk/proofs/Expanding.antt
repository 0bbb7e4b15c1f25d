-- Samples expanded one after the other.
use Rattle.std.proofs.Common.{◌≡◌, ℕ, zero, suc, ℤ, pos, ◌+◌, ◌*◌, ◌++◌, ◌∷◌, [], List, map, refl, ap, ◌∙◌, sym, subst, arith, set, take, length, get_or, ◌<◌, ◌≤◌, get_or-set_other, get_or-set_same, below_more, ◌≢◌}
use Rattle.std.specs.List.{All}
use Rattle.std.proofs.Math.ListN.{length-set}
use Rattle.std.proofs.Math.Seq.{take-length}
use Rattle.std.proofs.lemmas.List.{take_more_set, take_more, map-append}
use Rattle.g726_bits.specs.Ranges.{IsSample}
use Rattle.desk.specs.declared.samples.Companding.{Companding}
use Rattle.desk.specs.Ears.{expanded}

-- the first octets of a payload stand as samples
pub record Expanding (law : Companding) (payload : List ℕ) (samples : List ℤ) (count : ℕ) : Type 0 where
  pub front : take count samples ≡ map (expanded law) (take count payload)
  pub range : (k : ℕ) → k < count → IsSample (get_or samples k (pos 0))

pub expanding_none : (law : Companding) (payload : List ℕ) (samples : List ℤ) → Expanding law payload samples 0
expanding_none law payload samples = record { front = refl; range = λ k h. absurd (omega arith) }

pub expanding_more : (law : Companding) (payload : List ℕ) (samples : List ℤ) (i : ℕ) (v : ℤ) → Expanding law payload samples i
    → i < length payload → length samples ≡ length payload → v ≡ expanded law (get_or payload i 0) → IsSample v
    → Expanding law payload (set samples i v) (i + 1)
expanding_more law payload samples i v so_far within long value ranges =
    let room : i < length samples = omega arith in
    record {
      front =
          take_more_set samples i v room
          ∙ ap (λ (l : List ℤ). l ++ v ∷ []) so_far.front
          ∙ ap (λ (z : ℤ). map (expanded law) (take i payload) ++ z ∷ []) value
          ∙ sym (map-append (expanded law) (take i payload) (get_or payload i 0 ∷ []))
          ∙ ap (map (expanded law)) (sym (take_more payload i 0 within));
      range =
          below_more (λ k. IsSample (get_or (set samples i v) k (pos 0))) i
          (λ k h. let other : k ≢ i = omega arith in rw (get_or-set_other samples i k v (pos 0) other) (so_far.range k h))
          (rw (get_or-set_same samples i v (pos 0) room) ranges);
    }

-- four octets, from a place on
pub expanding_four : (law : Companding) (payload : List ℕ) (s0 s1 s2 s3 s4 : List ℤ) (k : ℕ) → Expanding law payload s0 (4 * k)
    → 4 * k + 3 < length payload → length s0 ≡ length payload
    → s1 ≡ set s0 (4 * k) (expanded law (get_or payload (4 * k) 0)) → IsSample (expanded law (get_or payload (4 * k) 0))
    → s2 ≡ set s1 (4 * k + 1) (expanded law (get_or payload (4 * k + 1) 0)) → IsSample (expanded law (get_or payload (4 * k + 1) 0))
    → s3 ≡ set s2 (4 * k + 2) (expanded law (get_or payload (4 * k + 2) 0)) → IsSample (expanded law (get_or payload (4 * k + 2) 0))
    → s4 ≡ set s3 (4 * k + 3) (expanded law (get_or payload (4 * k + 3) 0)) → IsSample (expanded law (get_or payload (4 * k + 3) 0))
    → Expanding law payload s4 (4 * (k + 1))
expanding_four law payload s0 s1 s2 s3 s4 k so_far within long is1 in1 is2 in2 is3 in3 is4 in4 =
    let v : ℕ → ℤ = λ n. expanded law (get_or payload n 0) in
    let long1 : length s1 ≡ length payload = ap length is1 ∙ length-set s0 (4 * k) (v (4 * k)) ∙ long in
    let long2 : length s2 ≡ length payload = ap length is2 ∙ length-set s1 (4 * k + 1) (v (4 * k + 1)) ∙ long1 in
    let long3 : length s3 ≡ length payload = ap length is3 ∙ length-set s2 (4 * k + 2) (v (4 * k + 2)) ∙ long2 in
    let first : Expanding law payload s1 (4 * k + 1) =
    step s0 s1 (4 * k) (4 * k + 1) so_far (omega arith) long is1 in1 refl in
    let second : Expanding law payload s2 (4 * k + 2) =
    step s1 s2 (4 * k + 1) (4 * k + 2) first (omega arith) long1 is2 in2 (omega arith) in
    let third : Expanding law payload s3 (4 * k + 3) =
    step s2 s3 (4 * k + 2) (4 * k + 3) second (omega arith) long2 is3 in3 (omega arith) in
    step s3 s4 (4 * k + 3) (4 * (k + 1)) third (omega arith) long3 is4 in4 (omega arith)
  where
    step : (s t : List ℤ) (i next : ℕ) → Expanding law payload s i → i < length payload → length s ≡ length payload
        → t ≡ set s i (expanded law (get_or payload i 0)) → IsSample (expanded law (get_or payload i 0)) → i + 1 ≡ next
        → Expanding law payload t next
    step s t i next before below room is in_range more =
        subst (λ (n : ℕ). Expanding law payload t n) more
        (subst (λ (ss : List ℤ). Expanding law payload ss (i + 1)) (sym is)
        (expanding_more law payload s i (expanded law (get_or payload i 0)) before below room refl in_range))

pub expanding_all : (law : Companding) (payload : List ℕ) (samples : List ℤ) (i : ℕ) → Expanding law payload samples i
    → length payload ≤ i → i ≤ length payload → length samples ≡ length payload
    → samples ≡ map (expanded law) payload
expanding_all law payload samples i so_far low high long =
    let e : i ≡ length payload = omega arith in
    let s : i ≡ length samples = omega arith in
    sym (take-length samples) ∙ ap (λ (n : ℕ). take n samples) (sym s) ∙ so_far.front
    ∙ ap (λ (n : ℕ). map (expanded law) (take n payload)) e ∙ ap (map (expanded law)) (take-length payload)

get_or-default : (samples : List ℤ) (k : ℕ) (d e : ℤ) → k < length samples → get_or samples k d ≡ get_or samples k e
get_or-default [] k d e within = absurd (omega arith)
get_or-default (s ∷ samples) zero d e within = refl
get_or-default (s ∷ samples) (suc k) d e within = get_or-default samples k d e (omega arith)

pub expanding_range : (law : Companding) (payload : List ℕ) (samples : List ℤ) (i : ℕ) → Expanding law payload samples i
    → length samples ≤ i → All IsSample samples
expanding_range law payload samples i so_far low k d within =
    let below : k < i = omega arith in
    rw (get_or-default samples k d (pos 0) within) (so_far.range k below)
