-- The number of binary digits.
use Rattle.std.proofs.Common.{◌≡◌, ◌≢◌, ℕ, zero, suc, ◌+◌, ◌*◌, ◌/◌, ◌^◌, ◌<◌, ◌≤◌, ◌==◌, Bool, true, false, if◌then◌else◌, refl, inl, inr, arith}
use Rattle.std.proofs.Math.Nat.{pow-suc, le_antisymm}
use Rattle.std.proofs.Math.Pow.{pow_mono}
use Rattle.std.proofs.lemmas.Bool.{cases_lt}
use Rattle.std.proofs.lemmas.Bool.Decides.{nat_tests}
use Rattle.g726_bits.specs.Numbers.{digits_within, binary_length}

-- n has d binary digits: an even bound above, and for 0 none
pub record IsLength (n d : ℕ) : Type 0 where
  pub below : n < 2 ^ d
  pub above : 2 ^ d ≤ 2 * n + 1

-- a number has one digit more than its half
one_more : (n d : ℕ) → n ≢ 0 → IsLength (n / 2) d → IsLength n (suc d)
one_more n zero some half = record { below = omega (arith, half.below); above = omega arith }
one_more n (suc d) some half =
    record { below = omega (arith, half.below, pow-suc 2 (suc d)); above = omega (arith, half.above, pow-suc 2 d, pow-suc 2 (suc d)) }

counted : (n d : ℕ) (t : Bool) → (n == 0) ≡ t → IsLength (n / 2) d → IsLength n (if t then 0 else suc d)
counted n d true e half =
    let none : n ≡ 0 = grind (arith, nat_tests) in record { below = omega arith; above = omega arith }
counted n d false e half = one_more n d (grind (arith, nat_tests)) half

pub digits_within_is : (k n : ℕ) → n < 2 ^ k → IsLength n (digits_within k n)
unfolding digits_within
digits_within_is zero n h = record { below = h; above = omega arith }
digits_within_is (suc k) n h =
    counted n (digits_within k (n / 2)) (n == 0) refl (digits_within_is k (n / 2) (omega (arith, pow-suc 2 k)))

pub binary_length_is : (n : ℕ) → n < 2 ^ 32 → IsLength n (binary_length n)
unfolding binary_length
binary_length_is n h = digits_within_is 32 n h

-- a number below 2^k has at most k digits
pub length_le : (n d k : ℕ) → IsLength n d → n < 2 ^ k → d ≤ k
length_le n zero k is h = omega arith
length_le n (suc d) k is h =
    elim (cases_lt k (suc d)) [ inl more ↦ absurd (one_past n d k is h more) | inr le ↦ le ]
  where
    one_past : (n d k : ℕ) → IsLength n (suc d) → n < 2 ^ k → k < suc d → ⊥
    one_past n d k is h more = omega (arith, is.above, pow_mono {i = k} {j = d} (omega arith), pow-suc 2 d)

-- and only one count is right
pub length_unique : (n d e : ℕ) → IsLength n d → IsLength n e → d ≡ e
length_unique n d e is also = le_antisymm (length_le n d e is also.below) (length_le n e d also is.below)

pub binary_length_le : (n k : ℕ) → n < 2 ^ 32 → n < 2 ^ k → binary_length n ≤ k
binary_length_le n k fits h = length_le n (binary_length n) k (binary_length_is n fits) h

-- at the widths of the codec
pub length_13 : (n : ℕ) → n < 8192 → binary_length n ≤ 13
length_13 n h = binary_length_le n 13 (omega arith) h

pub length_15 : (n : ℕ) → n < 32768 → binary_length n ≤ 15
length_15 n h = binary_length_le n 15 (omega arith) h

pub ruleset lengths = (length_13, length_15)
