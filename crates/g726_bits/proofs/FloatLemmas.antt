-- Mantissas, and their scaling.
use Rattle.std.proofs.Common.{◌≡◌, ◌≢◌, ℕ, zero, suc, ◌+◌, ◌-◌, ◌*◌, ◌/◌, ◌%◌, ◌^◌, ◌<◌, ◌≤◌, ◌==◌, nat_le, Bool, true}
use Rattle.std.proofs.Common.{false, if◌then◌else◌, refl, sym, ◌∙◌, ap, inl, inr, arith}
use Rattle.std.proofs.Math.Nat.{mod-eq_of_lt, zero-div, pow-suc, mul_assoc, mul_comm}
use Rattle.std.proofs.lemmas.Nat.{pow_pos, div_below, le-div, shl-shr, shr-shr, shr_le, shl_whole, or_comm, or_shifted, or_block}
use lib.Bits.{bit_or}
use Rattle.std.proofs.lemmas.Bool.{cases_eq}
use Rattle.std.proofs.lemmas.Bool.Decides.{nat_tests}
use Rattle.g726_bits.specs.Numbers.{binary_length}
use Rattle.g726_bits.specs.Floats.{mantissa, scaled}
use Rattle.g726_bits.proofs.Lengths.{IsLength, binary_length_is}

-- six digits of a number that isn't 0
six_digits : (n d : ℕ) → n ≢ 0 → IsLength n d → 64 * n / 2 ^ d < 64
six_digits n d some is = div_below (64 * n) (2 ^ d) 64 (pow_pos d) (omega (arith, is.below))

-- the first digit of a number that isn't 0 is a one
first_digit : (n d : ℕ) → n ≢ 0 → IsLength n d → 32 ≤ 64 * n / 2 ^ d
first_digit n d some is = le-div 32 (64 * n) (2 ^ d) (pow_pos d) (omega (arith, even_below n d some is))
  where
    even_below : (n d : ℕ) → n ≢ 0 → IsLength n d → 2 ^ d ≤ 2 * n
    even_below n zero some is = omega arith
    even_below n (suc d) some is = omega (arith, is.above, pow-suc 2 d)

-- a first digit that is there already stays
with_first_digit : (r : ℕ) → r < 32 → bit_or (32 + r) 32 ≡ 32 + r
with_first_digit r h =
    let none : bit_or r 0 ≡ r = or_comm r 0 ∙ (or_shifted 0 5 r h ∙ omega arith) in
    let whole : bit_or (1 * 2 ^ 5 + r) (1 * 2 ^ 5 + 0) ≡ bit_or 1 1 * 2 ^ 5 + bit_or r 0 = or_block 5 1 1 r 0 h (omega arith) in
    whole ∙ ap (λ n. 32 + n) none

six_with_first : (n : ℕ) → 32 ≤ n → n < 64 → bit_or n 32 ≡ n
six_with_first n least h =
    let e : 32 + (n - 32) ≡ n = omega arith in
    let is : bit_or (32 + (n - 32)) 32 ≡ 32 + (n - 32) = with_first_digit (n - 32) (omega arith) in
    rw e at is

pub mantissa_is : (n d : ℕ) → n < 2 ^ 32 → d ≡ binary_length n → bit_or (64 * n / 2 ^ d) 32 ≡ mantissa n
unfolding mantissa
mantissa_is n d h e = by (n == 0) refl
  where
    by : (t : Bool) → (n == 0) ≡ t → bit_or (64 * n / 2 ^ d) 32 ≡ (if t then 32 else 64 * n / 2 ^ binary_length n)
    by true z =
        let none : n ≡ 0 = grind (arith, nat_tests) in
        let zero : 64 * n / 2 ^ d ≡ 0 = ap (λ k. 64 * k / 2 ^ d) none ∙ zero-div (2 ^ d) in
        ap (λ k. bit_or k 32) zero
    by false z =
        let some : n ≢ 0 = grind (arith, nat_tests) in
        let is = binary_length_is n h in
        ap (λ k. bit_or (64 * n / 2 ^ k) 32) e ∙
        six_with_first (64 * n / 2 ^ binary_length n) (first_digit n (binary_length n) some is) (six_digits n (binary_length n) some is)

pub mantissa-lt : (n : ℕ) → n < 2 ^ 32 → mantissa n < 64
unfolding mantissa
mantissa-lt n h = by (n == 0) refl
  where
    by : (t : Bool) → (n == 0) ≡ t → (if t then 32 else 64 * n / 2 ^ binary_length n) < 64
    by true z = omega arith
    by false z = six_digits n (binary_length n) (grind (arith, nat_tests)) (binary_length_is n h)

-- a shift to the right by two more than a shift to the left by two
narrowed : (m k : ℕ) → m < 252 → 512 * m / 2 ^ (2 + k) % 32768 ≡ 128 * m / 2 ^ k
narrowed m k h =
    let fourth : 512 * m / 4 ≡ 128 * m = omega arith in
    let shifted : 512 * m / 2 ^ (2 + k) ≡ 128 * m / 2 ^ k = sym (shr-shr (512 * m) 2 k) ∙ ap (λ n. n / 2 ^ k) fourth in
    let small : 128 * m / 2 ^ k < 32768 = omega (arith, shr_le (128 * m) k) in
    ap (λ n. n % 32768) shifted ∙ mod-eq_of_lt small

-- the same at the two exponents above 26
widened : (exp mant : ℕ) → 26 < exp → exp ≤ 28 → 512 * mant / 2 ^ (28 - exp) ≡ 128 * mant * 2 ^ (exp - 26)
widened exp mant past few = elim (cases_eq exp 27) [ inl e ↦ rw e (omega arith) | inr ne ↦ at_28 exp (omega arith) ]
  where
    at_28 : (exp : ℕ) → exp ≡ 28 → 512 * mant / 2 ^ (28 - exp) ≡ 128 * mant * 2 ^ (exp - 26)
    at_28 exp e = rw e (omega arith)

scaled_down : (exp mant : ℕ) → exp ≤ 28 → mant < 252 → 512 * mant / 2 ^ (28 - exp) % 32768 ≡ scaled exp mant
unfolding scaled
scaled_down exp mant few h = by (nat_le exp 26) refl
  where
    by : (t : Bool) → nat_le exp 26 ≡ t → 512 * mant / 2 ^ (28 - exp) % 32768 ≡ (if t then 128 * mant / 2 ^ (26 - exp) else 128 * mant * 2 ^ (exp - 26) % 32768)
    by true e =
        let le : exp ≤ 26 = grind (arith, nat_tests) in
        let more : 28 - exp ≡ 2 + (26 - exp) = omega arith in
        ap (λ k. 512 * mant / 2 ^ k % 32768) more ∙ narrowed mant (26 - exp) h
    by false e = ap (λ n. n % 32768) (widened exp mant (grind (arith, nat_tests)) few)

-- a shift to the left and then to the right is one to the right
shifted_up : (exp mant : ℕ) → exp ≤ 28 → mant * 2 ^ exp / 2 ^ 19 ≡ 512 * mant / 2 ^ (28 - exp)
shifted_up exp mant few =
    let n = mant * 2 ^ exp in
    let up : n / 2 ^ 19 ≡ n * 2 ^ 9 / 2 ^ 28 = sym (ap (λ k. k / 2 ^ 19) (shl-shr n 9)) ∙ shr-shr (n * 2 ^ 9) 9 19 in
    let turned : n * 2 ^ 9 ≡ 512 * mant * 2 ^ exp =
    mul_comm n 512 ∙ sym (mul_assoc 512 mant (2 ^ exp)) in
    let places : 28 ≡ exp + (28 - exp) = omega arith in
    let down : 512 * mant * 2 ^ exp / 2 ^ (exp + (28 - exp)) ≡ 512 * mant / 2 ^ (28 - exp) =
    sym (shr-shr (512 * mant * 2 ^ exp) exp (28 - exp)) ∙ ap (λ k. k / 2 ^ (28 - exp)) (shl-shr (512 * mant) exp) in
    up ∙ (ap (λ k. k / 2 ^ 28) turned ∙ (ap (λ j. 512 * mant * 2 ^ exp / 2 ^ j) places ∙ down))

-- sixteen times and a shift by four more come to the same
sixteenths : (exp mant : ℕ) → 16 * mant * 2 ^ exp / 2 ^ 23 ≡ mant * 2 ^ exp / 2 ^ 19
sixteenths exp mant =
    let n = mant * 2 ^ exp in
    let e : 16 * mant * 2 ^ exp ≡ n * 2 ^ 4 = mul_assoc 16 mant (2 ^ exp) ∙ mul_comm 16 n in
    ap (λ k. k / 2 ^ 23) e ∙ (sym (shr-shr (n * 2 ^ 4) 4 19) ∙ ap (λ k. k / 2 ^ 19) (shl-shr n 4))

-- so do one place more to the left and one more to the right
one_place : (exp mant : ℕ) → 16 * mant * 2 ^ suc exp / 2 ^ 24 ≡ 16 * mant * 2 ^ exp / 2 ^ 23
one_place exp mant =
    let n = 16 * mant * 2 ^ exp in
    let e : 16 * mant * 2 ^ suc exp ≡ n * 2 ^ 1 =
    ap (λ k. 16 * mant * k) (pow-suc 2 exp) ∙ sym (mul_assoc (16 * mant) (2 ^ exp) 2) in
    ap (λ k. k / 2 ^ 24) e ∙ (sym (shr-shr (n * 2 ^ 1) 1 23) ∙ ap (λ k. k / 2 ^ 23) (shl-shr n 1))

scaled_by : (exp mant : ℕ) → exp ≤ 28 → mant < 252 → 16 * mant * 2 ^ suc exp % 2 ^ 64 / 2 ^ 24 % 32768 ≡ scaled exp mant
scaled_by exp mant few h =
    ap (λ n. n / 2 ^ 24 % 32768) (shl_whole (16 * mant) 12 (suc exp) 64 (omega arith) (omega arith)) ∙
    (ap (λ n. n % 32768) (one_place exp mant ∙ (sixteenths exp mant ∙ shifted_up exp mant few)) ∙ scaled_down exp mant few h)

pub scaled_is : (more mant : ℕ) → 1 ≤ more → more ≤ 29 → mant < 252 → 16 * mant * 2 ^ more % 2 ^ 64 / 2 ^ 24 % 32768 ≡ scaled (more - 1) mant
scaled_is zero mant some few h = absurd (omega arith)
scaled_is (suc exp) mant some few h =
    let e : suc exp - 1 ≡ exp = omega arith in
    scaled_by exp mant (omega arith) h ∙ ap (λ k. scaled k mant) (sym e)

-- four times a remainder is the remainder of four times
pub four_fourths : (n : ℕ) → 4 * n % 32768 ≡ 4 * (n % 8192)
four_fourths n = omega arith

-- the mantissa from a magnitude that is given four times
pub mantissa_of_fourth : (n d : ℕ) → n < 2 ^ 32 → d ≡ binary_length n + 1 → bit_or (32 * (4 * n) / 2 ^ d) 32 ≡ mantissa n
mantissa_of_fourth n d h e =
    let l = binary_length n in
    let whole : 32 * (4 * n) ≡ 64 * n * 2 ^ 1 = omega arith in
    let place : d ≡ 1 + l = omega (arith, e) in
    let q : 32 * (4 * n) / 2 ^ d ≡ 64 * n / 2 ^ l =
    ap (λ k. k / 2 ^ d) whole ∙ (ap (λ j. 64 * n * 2 ^ 1 / 2 ^ j) place ∙ (sym (shr-shr (64 * n * 2 ^ 1) 1 l) ∙ ap (λ k. k / 2 ^ l) (shl-shr (64 * n) 1))) in
    ap (λ k. bit_or k 32) q ∙ mantissa_is n l h refl
