-- A mask of sixteen ones turns a magnitude to its negation.
use Rattle.std.proofs.Common.{◌≡◌, ℕ, zero, suc, pos, ◌-ℤ◌, ◌+◌, ◌-◌, ◌*◌, ◌/◌, ◌%◌, ◌^◌, ◌<◌, Bool, true, false, cond, refl, ◌∙◌, ap, arith}
use Rattle.std.proofs.Math.Nat.{pow-suc}
use Rattle.std.proofs.lemmas.Int.{ints}
use Rattle.std.proofs.lemmas.Nat.{pow_pos, xor_block}
use lib.Bits.{bit_xor}
use lib.Signed.{mag}
use Rattle.g726_bits.specs.Numbers.{signed}
use Rattle.g726_bits.specs.Floats.{differ}

-- one digit
kept_digit : (d : ℕ) → d < 2 → bit_xor d 0 ≡ d
kept_digit zero h = refl
kept_digit (suc zero) h = refl
kept_digit (suc (suc d)) h = absurd (omega arith)

turned_digit : (d : ℕ) → d < 2 → bit_xor d 1 ≡ 1 - d
turned_digit zero h = refl
turned_digit (suc zero) h = refl
turned_digit (suc (suc d)) h = absurd (omega arith)

-- a mask of no ones, and one of ones alone
no_ones : (w n : ℕ) → n < 2 ^ w → bit_xor n 0 ≡ n
no_ones zero n h = let e : n ≡ 0 = omega arith in rw e refl
no_ones (suc w) n h =
    let high : bit_xor (n / 2) 0 ≡ n / 2 = no_ones w (n / 2) (omega (arith, pow-suc 2 w)) in
    let low : bit_xor (n % 2) 0 ≡ n % 2 = kept_digit (n % 2) (omega arith) in
    let e : bit_xor (n / 2 * 2 ^ 1 + n % 2) (0 * 2 ^ 1 + 0) ≡ bit_xor (n / 2) 0 * 2 ^ 1 + bit_xor (n % 2) 0 =
    xor_block 1 (n / 2) 0 (n % 2) 0 (omega arith) (omega arith) in
    let number : n ≡ n / 2 * 2 ^ 1 + n % 2 = omega arith in
    ap (λ k. bit_xor k 0) number ∙ (e ∙ omega (arith, high, low))

all_ones : (w n : ℕ) → n < 2 ^ w → bit_xor n (2 ^ w - 1) ≡ 2 ^ w - 1 - n
all_ones zero n h = let e : n ≡ 0 = omega arith in rw e refl
all_ones (suc w) n h =
    let high : bit_xor (n / 2) (2 ^ w - 1) ≡ 2 ^ w - 1 - n / 2 = all_ones w (n / 2) (omega (arith, pow-suc 2 w)) in
    let low : bit_xor (n % 2) 1 ≡ 1 - n % 2 = turned_digit (n % 2) (omega arith) in
    let number : n ≡ n / 2 * 2 ^ 1 + n % 2 = omega arith in
    let mask : 2 ^ suc w - 1 ≡ (2 ^ w - 1) * 2 ^ 1 + 1 = omega (arith, pow-suc 2 w, pow_pos w) in
    let e : bit_xor (n / 2 * 2 ^ 1 + n % 2) ((2 ^ w - 1) * 2 ^ 1 + 1) ≡ bit_xor (n / 2) (2 ^ w - 1) * 2 ^ 1 + bit_xor (n % 2) 1 =
    xor_block 1 (n / 2) (2 ^ w - 1) (n % 2) 1 (omega arith) (omega arith) in
    ap (λ k. bit_xor k (2 ^ suc w - 1)) number ∙ (ap (bit_xor (n / 2 * 2 ^ 1 + n % 2)) mask ∙ (e ∙ omega (arith, high, low, pow-suc 2 w)))

kept_by : (n : ℕ) → n < 2 ^ 15 → pos (bit_xor n 0) -ℤ pos 0 ≡ pos n
kept_by n h = omega (arith, ints, no_ones 16 n (omega arith))

turned_by : (n : ℕ) → n < 2 ^ 15 → pos (bit_xor n 65535) -ℤ pos 65535 ≡ signed true n
unfolding signed
turned_by n h = omega (arith, ints, all_ones 16 n (omega arith))

pub turned : (a b : Bool) (n : ℕ) → n < 2 ^ 15 → (let m = bit_xor (cond a 65535 0) (cond b 65535 0) in pos (bit_xor n m) -ℤ pos m ≡ signed (differ a b) n)
unfolding signed differ
turned true true n h = kept_by n h
turned true false n h = turned_by n h
turned false true n h = turned_by n h
turned false false n h = kept_by n h

pub signed_small : (negative : Bool) (n : ℕ) → n < 2 ^ 15 → mag (signed negative n) < 32768
unfolding signed
signed_small true n h = omega (arith, ints, h)
signed_small false n h = h
