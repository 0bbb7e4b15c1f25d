-- Frames of samples, one by one, and their payloads.
use Rattle.std.proofs.Common.{◌≡◌, ◌∙◌, ℕ, suc, ℤ, pos, List, [], ◌∷◌, ◌++◌, length, take, drop, map, replicate, get_or, slice_set, ◌+◌, ◌-◌, ◌/◌, ◌<◌, ◌≤◌, refl, sym, ap, arith}
use Rattle.std.proofs.lemmas.List.{take_all, length-drop, length-take, length-append, length-replicate, take_more, append-nil}
use Rattle.std.proofs.lemmas.List.Elements.{All-set}
use Rattle.std.specs.List.{All}
use Rattle.g726_bits.specs.Ranges.{IsSample}
use Rattle.g726_bits.specs.declared.Rate.{Rate}
use Rattle.g726_bits.specs.State.{CodecState}
use Rattle.g726_bits.specs.Encoder.{after_samples, payload_of}
use Rattle.g726_stream.specs.Samples.{samples_in}
use Rattle.g726_stream.specs.Streams.{pieces, filled, frames, payloads}
use Rattle.g726_stream.proofs.SampleLists.{length-samples, samples-take, samples-drop}

pub frames-step : (xs : List ℤ) → 0 < length xs → frames xs ≡ filled (take 160 xs) ∷ frames (drop 160 xs)
unfolding frames
frames-step xs h =
    let more : (length xs + 159) / 160 ≡ suc ((length (drop 160 xs) + 159) / 160) = omega (arith, length-drop 160 xs) in
    ap (λ k. map filled (pieces k 160 xs)) more

pub frames-none : (xs : List ℤ) → length xs ≡ 0 → frames xs ≡ []
unfolding frames
frames-none xs h =
    let none : (length xs + 159) / 160 ≡ 0 = omega arith in
    ap (λ k. map filled (pieces k 160 xs)) none

pub filled_whole : (xs : List ℤ) → length xs ≡ 160 → filled xs ≡ xs
filled_whole xs h =
    let none : 160 - length xs ≡ 0 = omega arith in
    ap (λ k. xs ++ replicate k (pos 0)) none ∙ append-nil xs

pub length-filled : (xs : List ℤ) → length xs ≤ 160 → length (filled xs) ≡ 160
length-filled xs h = omega (
  arith,
  length-append xs (replicate (160 - length xs) (pos 0)),
  length-replicate
      (160 - length xs) (pos 0),
)

-- ---- over octets ----

-- fewer than two octets make no frame
pub nothing_left : (rate : Rate) (s : CodecState) (octets : List ℕ) → length octets < 2 →
    payloads rate s (frames (samples_in octets)) ≡ []
nothing_left rate s octets h =
    let none : length (samples_in octets) ≡ 0 = omega (arith, length-samples octets) in
    ap (payloads rate s) (frames-none (samples_in octets) none)

-- the octets of at most a frame make one payload
pub one_frame : (rate : Rate) (s : CodecState) (octets : List ℕ) → 1 < length octets → length octets ≤ 320 →
    payloads rate s (frames (samples_in octets)) ≡ payload_of rate s (filled (samples_in octets))
one_frame rate s octets some few =
    let xs = samples_in octets in
    let long = length-samples octets in
    let none : length (drop 160 xs) ≡ 0 = omega (arith, length-drop 160 xs, long) in
    ap (payloads rate s) (frames-step xs (omega (arith, long))
    ∙ ap (λ fs. filled (take 160 xs) ∷ fs) (frames-none (drop 160 xs) none))
    ∙ append-nil (payload_of rate s (filled (take 160 xs)))
    ∙ ap (λ f. payload_of rate s (filled f)) (take_all 160 xs (omega (arith, long)))

-- the first frame of more octets, and the rest
pub whole_frame : (rate : Rate) (s : CodecState) (octets : List ℕ) → 320 ≤ length octets →
    payloads rate s (frames (samples_in octets)) ≡
    payloads rate s (frames (samples_in (take 320 octets))) ++ payloads rate
    (after_samples rate s (samples_in (take 320 octets))) (frames (samples_in (drop 320 octets)))
whole_frame rate s octets h =
    let xs = samples_in octets in
    let long = length-samples octets in
    let first : samples_in (take 320 octets) ≡ take 160 xs = samples-take 160 octets in
    let rest : samples_in (drop 320 octets) ≡ drop 160 xs = samples-drop 160 octets in
    let whole : filled (take 160 xs) ≡ take 160 xs =
    filled_whole (take 160 xs) (omega (arith, length-take 160 xs, long)) in
    let one = one_frame rate s (take 320 octets) (omega (arith, length-take 320 octets))
    (omega (arith, length-take 320 octets)) in
    ap (payloads rate s) (frames-step xs (omega (arith, long)))
    ∙ rw (one, first, rest, whole) refl

-- ---- a frame as it is built ----

-- one more number behind a front, in place of the first of its zeros
put_next : (front : List ℤ) (k : ℕ) (v : ℤ) →
    slice_set (front ++ replicate (suc k) (pos 0)) (length front) v ≡ (front ++ v ∷ []) ++ replicate k (pos 0)
put_next [] k v = refl
put_next (x ∷ front) k v = ap (λ ys. x ∷ ys) (put_next front k v)

-- the first i samples are in place, with zeros behind them
pub record Built (octets : List ℕ) (i : ℕ) (samples : List ℤ) : Type 0 where
  pub same : samples ≡ take i (samples_in octets) ++ replicate (160 - i) (pos 0)
  pub within : All IsSample samples

pub one_built : (octets : List ℕ) (i : ℕ) (samples : List ℤ) (sample : ℤ) → i < 160 → i < length octets / 2 →
    Built octets i samples →
    sample ≡ get_or (samples_in octets) i (pos 0) → IsSample sample → Built octets (i + 1) (slice_set samples i sample)
one_built octets i samples sample few h is same within =
    let xs = samples_in octets in
    let more : i < length xs = omega (arith, length-samples octets) in
    let long : length (take i xs) ≡ i = omega (arith, length-take i xs) in
    let less : 160 - i ≡ suc (160 - (i + 1)) = omega arith in
    record {
      same = ap (λ ys. slice_set ys i sample) is.same
          ∙ ap (λ n. slice_set (take i xs ++ replicate n (pos 0)) i sample) less
          ∙ ap (λ n. slice_set (take i xs ++ replicate (suc (160 - (i + 1))) (pos 0)) n sample) (sym long)
          ∙ put_next (take i xs) (160 - (i + 1)) sample
          ∙ ap (λ y. (take i xs ++ y ∷ []) ++ replicate (160 - (i + 1)) (pos 0)) same
          ∙ ap (λ ys. ys ++ replicate (160 - (i + 1)) (pos 0)) (sym (take_more xs i (pos 0) more));
      within = All-set IsSample samples i sample within is.within;
    }

pub all_built : (octets : List ℕ) (samples : List ℤ) → Built octets (length octets / 2) samples →
    samples ≡ filled (samples_in octets)
all_built octets samples is =
    let xs = samples_in octets in
    let long = length-samples octets in
    is.same ∙ ap (λ ys. ys ++ replicate (160 - length octets / 2) (pos 0)) (take_all (length octets / 2) xs (omega (arith, long)))
    ∙ ap (λ n. xs ++ replicate (160 - n) (pos 0)) (sym long)
