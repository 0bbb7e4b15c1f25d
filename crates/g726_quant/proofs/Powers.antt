-- The logarithm's digits, and the power's one shift.
use Rattle.std.proofs.Common.{◌≡◌, ℕ, zero, suc, ℤ, pos, negsuc, ◌≤ℤ◌, ◌<ℤ◌, ◌+ℤ◌, ◌-ℤ◌, ◌+◌, ◌-◌, ◌*◌, ◌/◌, ◌%◌, ◌^◌}
use Rattle.std.proofs.Common.{◌<◌, ◌≤◌, refl, sym, ◌∙◌, ap, inl, inr, arith}
use Rattle.std.proofs.Math.Nat.{mul_assoc, add_comm}
use Rattle.std.proofs.lemmas.Int.{ints}
use Rattle.std.proofs.Math.Pow.{pow_mono}
use Rattle.std.proofs.lemmas.Bool.{cases_lt}
use Rattle.std.proofs.lemmas.Nat.{pow-add, shl-shr, shr-shr, div_below}
use Rattle.g726_bits.specs.Numbers.{binary_length}
use Rattle.g726_bits.specs.Step.{power}
use Rattle.g726_bits.proofs.Lengths.{IsLength, binary_length_is}
use Rattle.g726_bits.proofs.Magnitudes.{power_le, log_level_le, least_log_level}
use Rattle.g726_quant.specs.Entries.{IsLogLevel}

-- a number that isn't 0 has a digit
pub has_digits : (n : ℕ) → 0 < n → n < 2 ^ 32 → 1 ≤ binary_length n
has_digits n some fits = by (binary_length n) (binary_length_is n fits)
  where
    by : (d : ℕ) → IsLength n d → 1 ≤ d
    by zero is = omega (arith, is.below)
    by (suc d) is = omega arith

-- a shift to the right for a power of two that is taken times
shifted : (m e k : ℕ) → e + k ≡ 14 → m * 2 ^ e / 128 ≡ m * 128 / 2 ^ k
shifted m e k h =
    let whole : 2 ^ e * 2 ^ k ≡ 16384 = sym (pow-add 2 e k) ∙ ap (λ n. 2 ^ n) h in
    let up : m * 2 ^ e ≡ m * 16384 / 2 ^ k =
    sym (shl-shr (m * 2 ^ e) k) ∙ ap (λ n. n / 2 ^ k) (mul_assoc m (2 ^ e) (2 ^ k) ∙ ap (λ n. m * n) whole) in
    let down : m * 16384 / 2 ^ 7 ≡ m * 128 = omega arith in
    ap (λ n. n / 128) up ∙ (shr-shr (m * 16384) k 7 ∙ (ap (λ j. m * 16384 / 2 ^ j) (add_comm k 7) ∙ (sym (shr-shr (m * 16384) 7 k) ∙ ap (λ n. n / 2 ^ k) down)))

-- from 0 on, 2048 is 16 whole digits
power_above : (n : ℕ) → n ≤ 1846 → (128 + (n + 2048) % 128) * 128 / 2 ^ (30 - (n + 2048) / 128) ≡ power (pos n)
unfolding power
power_above n h =
    let part : (n + 2048) % 128 ≡ n % 128 = omega arith in
    let places : 30 - (n + 2048) / 128 ≡ 14 - n / 128 = omega arith in
    rw (part, places) (sym (shifted (128 + n % 128) (n / 128) (14 - n / 128) (omega arith)))

-- below 0 nothing is left
shifted_out : (n : ℕ) → n < 2048 → (128 + n % 128) * 128 / 2 ^ (30 - n / 128) ≡ 0
shifted_out n h =
    let few : 2 ^ 15 ≤ 2 ^ (30 - n / 128) = pow_mono {i = 15} {j = 30 - n / 128} (omega arith) in
    omega (arith, div_below ((128 + n % 128) * 128) (2 ^ (30 - n / 128)) 1 (omega arith) (omega arith))

power_below : (z : ℤ) → z <ℤ pos 0 → power z ≡ 0
unfolding power
power_below (pos n) h = absurd (omega (arith, ints, h))
power_below (negsuc n) h = refl

pub power_is : (n : ℕ) → n ≤ 3894 → (128 + n % 128) * 128 / 2 ^ (30 - n / 128) ≡ power (pos n -ℤ pos 2048)
unfolding power
power_is n h = elim (cases_lt n 2048) [
  | inl below ↦ shifted_out n below ∙ sym (power_below (pos n -ℤ pos 2048) (omega (arith, ints)))
  | inr past ↦
      let e : n - 2048 + 2048 ≡ n = omega arith in
      let z : pos (n - 2048) ≡ pos n -ℤ pos 2048 = omega (arith, ints) in
      let is = power_above (n - 2048) (omega arith) in
      rw e at is ∙ ap power z
]

pub lifted_le : (n : ℕ) → n ≤ 3894 → power (pos n -ℤ pos 2048) ≤ 32767
lifted_le n h = power_le (pos n -ℤ pos 2048) (omega (arith, ints))

-- a logarithm is what it is with 2048 added, less that
pub power_by : (n : ℕ) (z : ℤ) → pos n ≡ z +ℤ pos 2048 → power (pos n -ℤ pos 2048) ≡ power z
power_by n z e = ap power (omega (arith, ints, e))

pub entry_le : (z : ℤ) → IsLogLevel z → z ≤ℤ pos 566
entry_le z is = rw is.read (log_level_le is.rate is.code)

pub least_entry : (z : ℤ) → IsLogLevel z → negsuc 2047 ≤ℤ z
least_entry z is = rw is.read (least_log_level is.rate is.code)
