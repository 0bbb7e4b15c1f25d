-- Signed numbers as the code has them: division rounded down, and numbers that keep their value in a type.
use Rattle.std.proofs.Common.{◌≡◌, ℕ, suc, ℤ, pos, negsuc, ◌+◌, ◌-◌, ◌*◌, ◌/◌, ◌%◌, ◌<◌, w16, w32, w64, refl, sym, ◌∙◌, ap, arith}
use Rattle.std.proofs.lemmas.Int.{to_z-of_z, ints}
use Rattle.std.proofs.lemmas.Nat.{div-add-mod', div-mul-add, div_below, mod_below}
use mir.Val.{to_z, of_z}
use lib.Signed.{mag, shr_z}
use borrow.Author.Differences.{up, down}
use Rattle.g726_bits.specs.Numbers.{floor_div}

-- a number that fits a type keeps its value there
pub kept16 : (z : ℤ) → mag z < 32768 → to_z w16 (of_z w16 z) ≡ z
kept16 z h = to_z-of_z w16 z (record { sfits = h })

pub kept32 : (z : ℤ) → mag z < 2147483648 → to_z w32 (of_z w32 z) ≡ z
kept32 z h = to_z-of_z w32 z (record { sfits = h })

pub kept64 : (z : ℤ) → mag z < 9223372036854775808 → to_z w64 (of_z w64 z) ≡ z
kept64 z h = to_z-of_z w64 z (record { sfits = h })

-- the code's `>>` on a signed number
pub shr_floor : (z : ℤ) (m : ℕ) → shr_z z m ≡ floor_div z m
shr_floor (pos a) m = refl
shr_floor (negsuc a) m = refl

-- one divisor more, one more
div-add : (a m : ℕ) → 0 < m → (a + m) / m ≡ suc (a / m)
div-add a m h =
    let e : a + m ≡ (a / m + 1) * m + a % m = omega (arith, div-add-mod' a m) in
    ap (λ n. n / m) e ∙ (div-mul-add (a / m + 1) m (a % m) (mod_below a m h) ∙ omega arith)

-- a quotient of less than the divisor is 0
none_over : (n m : ℕ) → n < m → 0 ≡ n / m
none_over n m h = omega (arith, div_below n m 1 (omega arith) (omega arith))

-- the quotients of a number and of its negation, plain
up_pos : (a m : ℕ) → a / m ≡ (a - 0) / m
up_pos a m = ap (λ n. n / m) (omega arith)

down_pos : (a m : ℕ) → 0 < m → 0 ≡ (0 - a + (m - 1)) / m
down_pos a m h = none_over (0 - a + (m - 1)) m (omega arith)

up_negsuc : (a m : ℕ) → 0 < m → 0 ≡ (0 - suc a) / m
up_negsuc a m h = none_over (0 - suc a) m (omega arith)

down_negsuc : (a m : ℕ) → 0 < m → suc (a / m) ≡ (suc a - 0 + (m - 1)) / m
down_negsuc a m h =
    let e : a + m ≡ suc a - 0 + (m - 1) = omega arith in sym (div-add a m h) ∙ ap (λ n. n / m) e

-- what `omega` reads of a quotient: a number is the difference of its `up` and its `down`
pub floor_div_is : (z : ℤ) (m : ℕ) → 0 < m → (up (floor_div z m) ≡ (up z - down z) / m) × (down (floor_div z m) ≡ (down z - up z + (m - 1)) / m)
floor_div_is (pos a) m h = (up_pos a m, down_pos a m h)
floor_div_is (negsuc a) m h = (up_negsuc a m h, down_negsuc a m h)

pub shr_z_is : (z : ℤ) (m : ℕ) → 0 < m → (up (shr_z z m) ≡ (up z - down z) / m) × (down (shr_z z m) ≡ (down z - up z + (m - 1)) / m)
shr_z_is (pos a) m h = floor_div_is (pos a) m h
shr_z_is (negsuc a) m h = floor_div_is (negsuc a) m h

-- for a function of one expression
pub ruleset floors = (ints, floor_div_is, shr_z_is)

-- for a function that only calls others
pub ruleset plain = (to_z-of_z, kept16, kept32, kept64, shr_floor)
