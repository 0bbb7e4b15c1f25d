-- Places, and the codes that they hold.
use Rattle.std.proofs.Common.{zero, suc, ◌≡◌, ◌≤◌, ◌<◌, ℕ, ◌+◌, ◌-◌, ◌*◌, ◌/◌, ◌^◌, ℤ, pos, negsuc, List, [], ◌∷◌, ◌++◌, length, map, take, get_or, set, Option, Some, None, refl, sym, ◌∙◌, ap, subst, arith}
use Rattle.std.specs.Prelude.{unsigned_abs}
use Rattle.std.specs.List.{All}
use Rattle.std.proofs.Math.Nat.{mul-div_cancel_left}
use Rattle.std.proofs.lemmas.Int.{ints}
use Rattle.std.proofs.lemmas.List.{take_all, take_more, take_more_set, length-set, map-append}
use Rattle.std.proofs.lemmas.List.Elements.{All-nil, All-cons, All-head, All-tail, All-append}
use Rattle.g726_bits.specs.declared.Rate.{Rate}
use Rattle.g726_bits.specs.declared.Rate.TheVariants.{R16, R24, R32, R40}
use Rattle.g726_bits.specs.Packing.{number, digits}
use Rattle.g726_bits.specs.Rates.{bits_of}
use Rattle.g726_bits.specs.Ranges.{Within, IsSample}
use Rattle.g726_bits.specs.State.{CodecState}
use Rattle.g726_bits.specs.Step.{sample_of}
use Rattle.g726_bits.proofs.ScaleRanges.{limited_within}
use Rattle.talk_726.specs.Decoding.{codes_in, code_at, place_of, state_at, state_past, sample_at, samples_for}
use Rattle.talk_726.specs.Kept.{IsPlace}

pub no-code : (m : ℕ) (x : ℤ) → Within (pos 0) (pos m) x → unsigned_abs x ≡ 0 → code_at x ≡ None
no-code m (pos zero) is e = refl
no-code m (pos (suc c)) is e = absurd (omega arith)
no-code m (negsuc n) is e = refl

pub one-code : (m : ℕ) (x : ℤ) → Within (pos 0) (pos m) x → (unsigned_abs x ≡ 0 → ⊥) → code_at x ≡ Some (unsigned_abs x - 1)
one-code m (pos zero) is ne = absurd (ne refl)
one-code m (pos (suc c)) is ne = ap Some (omega arith)
one-code m (negsuc n) is ne = absurd (omega (arith, ints, is.at_least))

pub within-abs : (m : ℕ) (x : ℤ) → Within (pos 0) (pos m) x → unsigned_abs x ≤ m
within-abs m (pos n) is = omega (arith, ints, is.at_most)
within-abs m (negsuc n) is = absurd (omega (arith, ints, is.at_least))

pub bits-few : (rate : Rate) → 2 ^ bits_of rate ≤ 32
bits-few R16 = omega arith
bits-few R24 = omega arith
bits-few R32 = omega arith
bits-few R40 = omega arith

pub bits-some : (rate : Rate) → 1 ≤ bits_of rate
bits-some R16 = omega arith
bits-some R24 = omega arith
bits-some R32 = omega arith
bits-some R40 = omega arith

-- ---- codes put down as places ----

-- the first codes stand as places
pub record Placed (codes : List ℕ) (places : List ℤ) (i : ℕ) : Type 0 where
  pub front : take i places ≡ map place_of (take i codes)
  pub long : length places ≡ length codes

pub placed-none : (codes : List ℕ) (places : List ℤ) → length places ≡ length codes → Placed codes places 0
placed-none codes places long = record { front = refl; long = long }

pub placed-more : (codes : List ℕ) (places : List ℤ) (i : ℕ) (x : ℤ) → Placed codes places i → i < length codes → x ≡ place_of (get_or codes i 0)
    → Placed codes (set places i x) (i + 1)
placed-more codes places i x is within e = record {
  front =
      take_more_set places i x (omega (arith, is.long))
      ∙ ap (λ xs. xs ++ x ∷ []) is.front
      ∙ ap (λ y. map place_of (take i codes) ++ y ∷ []) e
      ∙ sym (map-append place_of (take i codes) (get_or codes i 0 ∷ []))
      ∙ ap (map place_of) (sym (take_more codes i 0 within));
  long = length-set places i x ∙ is.long;
}

pub placed-all : (codes : List ℕ) (places : List ℤ) (i : ℕ) → Placed codes places i → i ≡ length codes → places ≡ map place_of codes
placed-all codes places i is end =
    sym (take_all i places (omega (arith, is.long, end))) ∙ is.front ∙ ap (map place_of) (take_all i codes (omega arith))

pub places-within : (rate : Rate) (codes : List ℕ) → All (λ c. c < 2 ^ bits_of rate) codes → All (IsPlace rate) (map place_of codes)
places-within rate [] small = All-nil (IsPlace rate)
places-within rate (c ∷ codes) small =
    let few : c < 2 ^ bits_of rate = All-head (λ d. d < 2 ^ bits_of rate) c codes small in
    All-cons (IsPlace rate) (place_of c) (map place_of codes)
    (record { at_least = omega (arith, ints); at_most = omega (arith, ints, few) })
    (places-within rate codes (All-tail (λ d. d < 2 ^ bits_of rate) c codes small))

pub codes-count : (n count octets : ℕ) → 1 ≤ n → n * count ≡ 8 * octets → 8 * octets / n ≡ count
codes-count n count octets some e = ap (λ k. k / n) (sym e) ∙ mul-div_cancel_left count some

pub codes-whole : (rate : Rate) (octets codes : List ℕ) → bits_of rate * length codes ≡ 8 * length octets
    → codes ≡ digits (2 ^ bits_of rate) (length codes) (number 256 octets) → codes ≡ codes_in rate octets
unfolding codes_in
codes-whole rate octets codes whole is =
    let some : 1 ≤ bits_of rate = bits-some rate in
    is ∙ ap (λ k. digits (2 ^ bits_of rate) k (number 256 octets)) (sym (codes-count (bits_of rate) (length codes) (length octets) some whole))

-- ---- places followed one after the other ----

pub state_past-append : (rate : Rate) (s : CodecState) (xs ys : List ℤ) → state_past rate s (xs ++ ys) ≡ state_past rate (state_past rate s xs) ys
unfolding state_past
state_past-append rate s [] ys = refl
state_past-append rate s (x ∷ xs) ys = state_past-append rate (state_at rate s (code_at x)) xs ys

pub samples_for-append : (rate : Rate) (s : CodecState) (xs ys : List ℤ)
    → samples_for rate s (xs ++ ys) ≡ samples_for rate s xs ++ samples_for rate (state_past rate s xs) ys
unfolding samples_for state_past
samples_for-append rate s [] ys = refl
samples_for-append rate s (x ∷ xs) ys = ap (λ zs. sample_at rate s (code_at x) ∷ zs) (samples_for-append rate (state_at rate s (code_at x)) xs ys)

sample-within : (rate : Rate) (s : CodecState) (code : Option ℕ) → IsSample (sample_at rate s code)
unfolding sample_of
sample-within rate s None = record { at_least = omega (arith, ints); at_most = omega (arith, ints) }
sample-within rate s (Some code) = limited_within (negsuc 8191) (pos 8191) _ (omega (arith, ints))

pub samples-within : (rate : Rate) (s : CodecState) (xs : List ℤ) → All IsSample (samples_for rate s xs)
unfolding samples_for
samples-within rate s [] = All-nil IsSample
samples-within rate s (x ∷ xs) =
    let next = state_at rate s (code_at x) in
    All-cons IsSample (sample_at rate s (code_at x)) (samples_for rate next xs) (sample-within rate s (code_at x)) (samples-within rate next xs)

-- past the first places: the state, and their samples
pub record Said (rate : Rate) (before : CodecState) (places : List ℤ) (i : ℕ) (state : CodecState) (samples : List ℤ) : Type 0 where
  pub past : state ≡ state_past rate before (take i places)
  pub front : take i samples ≡ samples_for rate before (take i places)
  pub long : length samples ≡ 160

pub said-none : (rate : Rate) (before state : CodecState) (places samples : List ℤ) → state ≡ before → length samples ≡ 160 → Said rate before places 0 state samples
unfolding state_past samples_for
said-none rate before state places samples e long = record { past = e; front = refl; long = long }

pub said-more : (rate : Rate) (before : CodecState) (places : List ℤ) (i : ℕ) (s next : CodecState) (samples : List ℤ) (y : ℤ)
    → Said rate before places i s samples → i < length places → i < 160
    → next ≡ state_at rate s (code_at (get_or places i (pos 0))) → y ≡ sample_at rate s (code_at (get_or places i (pos 0)))
    → Said rate before places (i + 1) next (set samples i y)
unfolding state_past samples_for
said-more rate before places i s next samples y is within room e f =
    let x = get_or places i (pos 0) in
    let more : take (i + 1) places ≡ take i places ++ x ∷ [] = take_more places i (pos 0) within in
    record {
      past = e ∙ ap (λ s. state_at rate s (code_at x)) is.past
          ∙ sym (state_past-append rate before (take i places) (x ∷ [])) ∙ ap (state_past rate before) (sym more);
      front =
          take_more_set samples i y (omega (arith, is.long))
          ∙ ap (λ xs. xs ++ y ∷ []) is.front
          ∙ ap (λ z. samples_for rate before (take i places) ++ z ∷ []) (f ∙ ap (λ s. sample_at rate s (code_at x)) is.past)
          ∙ sym (samples_for-append rate before (take i places) (x ∷ [])) ∙ ap (samples_for rate before) (sym more);
      long = length-set samples i y ∙ is.long;
    }

pub said-all : (rate : Rate) (before : CodecState) (places : List ℤ) (i : ℕ) (state : CodecState) (samples : List ℤ) → Said rate before places i state samples
    → i ≡ 160 → length places ≡ 160 → (state ≡ state_past rate before places) × (samples ≡ samples_for rate before places)
said-all rate before places i state samples is end long =
    let all : take i places ≡ places = take_all i places (omega arith) in (
      is.past ∙ ap (state_past rate before) all,
      sym (take_all i samples (omega (arith, is.long))) ∙ is.front ∙ ap (samples_for rate before) all,
    )

-- ---- a frame of places of which each has a code ----

-- the first places have these codes
pub record Coded (rate : Rate) (places : List ℤ) (codes : List ℕ) (i : ℕ) : Type 0 where
  pub front : take i places ≡ map place_of (take i codes)
  pub small : All (λ c. c < 2 ^ bits_of rate) (take i codes)
  pub long : length codes ≡ 160

pub coded-none : (rate : Rate) (places : List ℤ) (codes : List ℕ) → length codes ≡ 160 → Coded rate places codes 0
coded-none rate places codes long = record { front = refl; small = All-nil (λ c. c < 2 ^ bits_of rate); long = long }

pub coded-more : (rate : Rate) (places : List ℤ) (codes : List ℕ) (i c : ℕ) → Coded rate places codes i → i < length places → i < 160
    → get_or places i (pos 0) ≡ place_of c → c < 2 ^ bits_of rate → Coded rate places (set codes i c) (i + 1)
coded-more rate places codes i c is within room e few =
    let more : take (i + 1) (set codes i c) ≡ take i codes ++ c ∷ [] = take_more_set codes i c (omega (arith, is.long)) in
    let small : All (λ d. d < 2 ^ bits_of rate) (take i codes ++ c ∷ []) =
    All-append (λ d. d < 2 ^ bits_of rate) (take i codes) (c ∷ []) is.small
    (All-cons (λ d. d < 2 ^ bits_of rate) c [] few (All-nil (λ d. d < 2 ^ bits_of rate))) in
    record {
      front =
          take_more places i (pos 0) within
          ∙ ap (λ xs. xs ++ get_or places i (pos 0) ∷ []) is.front
          ∙ ap (λ x. map place_of (take i codes) ++ x ∷ []) e
          ∙ sym (map-append place_of (take i codes) (c ∷ []))
          ∙ ap (map place_of) (sym more);
      small = subst (All (λ d. d < 2 ^ bits_of rate)) (sym more) small;
      long = length-set codes i c ∙ is.long;
    }

pub coded-all : (rate : Rate) (places : List ℤ) (codes : List ℕ) (i : ℕ) → Coded rate places codes i → i ≡ 160 → length places ≡ 160
    → (places ≡ map place_of codes) × All (λ c. c < 2 ^ bits_of rate) codes
coded-all rate places codes i is end long =
    let all : take i codes ≡ codes = take_all i codes (omega (arith, is.long)) in (
      sym (take_all i places (omega arith)) ∙ is.front ∙ ap (map place_of) all,
      subst (All (λ c. c < 2 ^ bits_of rate)) all is.small,
    )

pub place-of-code : (m : ℕ) (x : ℤ) → Within (pos 0) (pos m) x → (unsigned_abs x ≡ 0 → ⊥)
    → (x ≡ place_of (unsigned_abs x - 1)) × (unsigned_abs x - 1 < m)
place-of-code m (pos zero) is ne = absurd (ne refl)
place-of-code m (pos (suc c)) is ne = (ap pos (omega arith), omega (arith, ints, is.at_most))
place-of-code m (negsuc n) is ne = absurd (omega (arith, ints, is.at_least))
