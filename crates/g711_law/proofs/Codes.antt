-- What a test finds at each of the 256 codes holds of each code.
use Rattle.std.proofs.Common.{◌≡◌, ◌≤ℤ◌, ◌<ℤ◌, ◌<◌, ◌≤◌, neg_ℤ, bit_xor, arith, inl, inr, ◌&&◌, ℕ, ℤ, pos, negsuc, zero, suc, Bool, true, refl, ◌∙◌, sym, List, Some, slice_get, get_or}
use Rattle.std.specs.Ordering.{int_eq}
use Rattle.std.specs.Int.Signed.{le_z, le_z_yes, lt_z, lt_z_yes}
use Rattle.std.proofs.lemmas.Float.{T_from_true}
use Rattle.std.proofs.lemmas.Bool.{and_parts, cases_lt}
use Rattle.std.proofs.lemmas.Int.{ints}
use Rattle.std.proofs.lemmas.Option.{get_or_from_slice_get}
use Rattle.std.proofs.lemmas.Bool.Decides.{Decides-int_eq, Decides-below_and}

-- the test passes below n
abbrev pub passes_below : (ℕ → Bool) → ℕ → Bool
passes_below p zero = true
passes_below p (suc n) = p n && passes_below p n

pub passes_at : (p : ℕ → Bool) (n k : ℕ) → passes_below p n ≡ true → k < n → p k ≡ true
passes_at p n k t h = (Decides-below_and p (λ j. p j ≡ true) (passes_below p) (λ j. (λ e. e, λ e. e)) refl (λ _. refl) n).0 t k h

-- ---- tables

-- a table has the law's value for a code
abbrev pub has_value : List ℤ → (ℕ → ℤ) → ℕ → Bool
has_value table law code = int_eq (get_or table code (pos 0)) (law code)

pub value_at : (table : List ℤ) (law : ℕ → ℤ) (code : ℕ) (x : ℤ) → passes_below (has_value table law) 256 ≡ true → code < 256 → slice_get table code ≡ Some x → x ≡ law code
value_at table law code x t h e =
    sym (get_or_from_slice_get table code x (pos 0) e) ∙ (Decides-int_eq _ _).0 (passes_at (has_value table law) 256 code t h)

-- ---- ranges

-- a law's value for a code has fourteen bits
abbrev pub is_short : (ℕ → ℤ) → ℕ → Bool
is_short law code = le_z (negsuc 8191) (law code) && le_z (law code) (pos 8191)

pub short_at : (law : ℕ → ℤ) (code : ℕ) → passes_below (is_short law) 256 ≡ true → code < 256 → (negsuc 8191 ≤ℤ law code) × (law code ≤ℤ pos 8191)
short_at law code t h =
    let both = and_parts _ _ (passes_at (is_short law) 256 code t h) in
    (le_z_yes (T_from_true _ both.0), le_z_yes (T_from_true _ both.1))

-- ---- symmetry

-- the code with the other top bit has the opposite value
abbrev pub is_mirrored : (ℕ → ℤ) → ℕ → Bool
is_mirrored law code = int_eq (law (bit_xor code 0x80)) (neg_ℤ (law code))

pub mirrored_at : (law : ℕ → ℤ) (code : ℕ) → passes_below (is_mirrored law) 256 ≡ true → code < 256 → law (bit_xor code 0x80) ≡ neg_ℤ (law code)
mirrored_at law code t h = (Decides-int_eq _ _).0 (passes_at (is_mirrored law) 256 code t h)

-- ---- order

-- the next number has a greater value
abbrev pub steps_up : (ℕ → ℤ) → ℕ → Bool
steps_up f k = lt_z (f k) (f (suc k))

pub rises_at : (f : ℕ → ℤ) (n j k : ℕ) → passes_below (steps_up f) n ≡ true → j < k → k ≤ n → f j <ℤ f k
rises_at f n j zero t below within = absurd (omega arith)
rises_at f n j (suc k) t below within =
    let last : f k <ℤ f (suc k) = lt_z_yes (T_from_true _ (passes_at (steps_up f) n k t (omega arith))) in
    elim (cases_lt j k) [
      | inl earlier ↦ let before : f j <ℤ f k = rises_at f n j k t earlier (omega arith) in omega (arith, ints)
      | inr there ↦ let same : j ≡ k = omega arith in rw same last
    ]

from_neg : (a b : ℤ) → neg_ℤ a <ℤ neg_ℤ b → b <ℤ a
from_neg a b h = omega (arith, ints)

pub falls_at : (f : ℕ → ℤ) (n j k : ℕ) → passes_below (steps_up (λ i. neg_ℤ (f i))) n ≡ true → j < k → k ≤ n → f k <ℤ f j
falls_at f n j k t below within = from_neg _ _ (rises_at (λ i. neg_ℤ (f i)) n j k t below within)
