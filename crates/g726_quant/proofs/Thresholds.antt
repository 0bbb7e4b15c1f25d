-- A logarithm is compared with a number by that number's power.
use Rattle.std.proofs.Common.{◌≡◌, ℕ, zero, suc, pos, ◌-ℤ◌, int_le, ◌+◌, ◌-◌, ◌*◌, ◌/◌, ◌%◌, ◌^◌, ◌<◌, ◌≤◌, nat_le, min}
use Rattle.std.proofs.Common.{Bool, true, false, if◌then◌else◌, sym, ◌∙◌, ap, inl, inr, arith}
use Rattle.std.proofs.Math.Nat.{pow-suc, mul-le-mul_right, le-div_iff_mul-le}
use Rattle.std.proofs.Math.Pow.{pow_mono}
use Rattle.std.proofs.lemmas.Int.{ints}
use Rattle.std.proofs.lemmas.Bool.{cases_lt}
use Rattle.std.proofs.lemmas.Bool.Decides.{nat_tests}
use Rattle.std.proofs.lemmas.Nat.{div_below}
use Rattle.g726_bits.specs.Numbers.{binary_length}
use Rattle.g726_bits.specs.Step.{logarithm}
use Rattle.g726_bits.proofs.Lengths.{IsLength, binary_length_is, length_15}

both : (a b c d : ℕ) → a ≤ b → c ≤ d → nat_le a b ≡ nat_le c d
both a b c d h i =
    let x : nat_le a b ≡ true = grind (arith, nat_tests) in let y : nat_le c d ≡ true = grind (arith, nat_tests) in x ∙ sym y

neither : (a b c d : ℕ) → b < a → d < c → nat_le a b ≡ nat_le c d
neither a b c d h i =
    let x : nat_le a b ≡ false = grind (arith, nat_tests) in let y : nat_le c d ≡ false = grind (arith, nat_tests) in x ∙ sym y

-- a power of two is at least twice each lower one
twice_le : (j k : ℕ) → j < k → 2 * 2 ^ j ≤ 2 ^ k
twice_le j k h = omega (arith, pow-suc 2 j, pow_mono {i = suc j} {j = k} (omega arith))

-- with as many digits the fractions decide
same_digits : (m k f l : ℕ) → 2 ^ k ≤ m → m < 2 * 2 ^ k → f < 128 → l ≡ 128 * k + f →
    nat_le ((128 + f) * 2 ^ k) (128 * m) ≡ nat_le l (128 * k + 128 * m / 2 ^ k % 128)
same_digits m k f l low high few e =
    let some : 0 < 2 ^ k = omega arith in
    let least : 128 ≤ 128 * m / 2 ^ k = (le-div_iff_mul-le some).1 (omega arith) in
    let most : 128 * m / 2 ^ k < 256 = div_below (128 * m) (2 ^ k) 256 some (omega arith) in
    elim (cases_lt (128 * m) ((128 + f) * 2 ^ k)) [
      | inl less ↦
          let under : 128 * m / 2 ^ k < 128 + f = div_below (128 * m) (2 ^ k) (128 + f) some less in
          neither ((128 + f) * 2 ^ k) (128 * m) l (128 * k + 128 * m / 2 ^ k % 128) less (omega arith)
      | inr more ↦
          let over : 128 + f ≤ 128 * m / 2 ^ k = (le-div_iff_mul-le some).1 more in
          both ((128 + f) * 2 ^ k) (128 * m) l (128 * k + 128 * m / 2 ^ k % 128) more (omega arith)
    ]

-- a number of k + 1 digits
of_digits : (m k l : ℕ) → 2 ^ k ≤ m → m < 2 * 2 ^ k →
    nat_le ((128 + l % 128) * 2 ^ (l / 128)) (128 * m) ≡ nat_le l (128 * k + 128 * m / 2 ^ k % 128)
of_digits m k l low high =
    let e = l / 128 in
    let part : l % 128 * 2 ^ e ≤ 127 * 2 ^ e = mul-le-mul_right (2 ^ e) (omega arith) in
    elim (cases_lt e k) [
      | inl fewer ↦
          both ((128 + l % 128) * 2 ^ e) (128 * m) l (128 * k + 128 * m / 2 ^ k % 128) (omega (arith, part, twice_le e k fewer)) (omega arith)
      | inr no_fewer ↦ elim (cases_lt k e) [
        | inl more ↦
            neither ((128 + l % 128) * 2 ^ e) (128 * m) l (128 * k + 128 * m / 2 ^ k % 128) (omega (arith, twice_le k e more)) (omega arith)
        | inr no_more ↦
            let same : e ≡ k = omega arith in
            ap (λ j. nat_le ((128 + l % 128) * 2 ^ j) (128 * m)) same ∙ same_digits m k (l % 128) l low high (omega arith) (omega arith)
      ]
    ]

by_length : (m l d : ℕ) → 2 ≤ m → IsLength m d →
    nat_le ((128 + l % 128) * 2 ^ (l / 128)) (128 * m) ≡ nat_le l (128 * (d - 1) + 128 * m / 2 ^ (d - 1) % 128)
by_length m l zero some is = absurd (omega (arith, is.below))
by_length m l (suc d) some is =
    let e : suc d - 1 ≡ d = omega arith in
    rw e (of_digits m d l (omega (arith, is.above, pow-suc 2 d)) (omega (arith, is.below, pow-suc 2 d)))

-- 128 and more by a power of two is more than 128, but where both are least
past_least : (l : ℕ) → 1 ≤ l → 128 < (128 + l % 128) * 2 ^ (l / 128)
past_least l some = elim (cases_lt l 128) [
  | inl low ↦
      let part : 1 * 2 ^ (l / 128) ≤ l % 128 * 2 ^ (l / 128) = mul-le-mul_right (2 ^ (l / 128)) (omega arith) in
      omega (arith, part, pow_mono {i = 0} {j = l / 128} (omega arith))
  | inr high ↦ omega (arith, pow_mono {i = 1} {j = l / 128} (omega arith))
]

pub has_log_is : (m l : ℕ) → m < 2 ^ 15 → 1 ≤ l → nat_le ((128 + l % 128) * 2 ^ (l / 128)) (128 * m) ≡ nat_le l (logarithm m)
unfolding logarithm
has_log_is zero l fits some = neither ((128 + l % 128) * 2 ^ (l / 128)) 0 l 0 (omega (arith, past_least l some)) (omega arith)
has_log_is (suc zero) l fits some = neither ((128 + l % 128) * 2 ^ (l / 128)) 128 l 0 (past_least l some) (omega arith)
has_log_is (suc (suc n)) l fits some =
    let m = suc (suc n) in
    let large : nat_le m 1 ≡ false = grind (arith, nat_tests) in
    rw large (by_length m l (binary_length m) (omega arith) (binary_length_is m (omega arith)))

log_of : (m k : ℕ) → k ≤ 14 → 128 * k + 128 * m / 2 ^ k % 128 < 1920
log_of m k h = omega arith

pub log_lt : (m : ℕ) → m < 2 ^ 15 → logarithm m < 1920
unfolding logarithm
log_lt m fits = log_of m (if nat_le m 1 then 0 else binary_length m - 1) (by (nat_le m 1))
  where
    by : (t : Bool) → (if t then 0 else binary_length m - 1) ≤ 14
    by true = omega arith
    by false = omega (arith, length_15 m fits)

-- a threshold with the scale factor's logarithm, which none is past 1920
pub reached_is : (log q : ℕ) → log < 1920 → nat_le (min (261 + q) 1920) log ≡ int_le (pos 261) (pos log -ℤ pos q)
reached_is log q h = elim (cases_lt log (261 + q)) [
  | inl below ↦
      let x : nat_le (min (261 + q) 1920) log ≡ false = grind (arith, nat_tests) in
      let y : int_le (pos 261) (pos log -ℤ pos q) ≡ false = grind (arith, ints, nat_tests) in
      x ∙ sym y
  | inr past ↦
      let x : nat_le (min (261 + q) 1920) log ≡ true = grind (arith, nat_tests) in
      let y : int_le (pos 261) (pos log -ℤ pos q) ≡ true = grind (arith, ints, nat_tests) in
      x ∙ sym y
]

pub has_threshold : (m q l : ℕ) → m < 2 ^ 15 → l ≡ min (261 + q) 1920 →
    nat_le ((128 + l % 128) * 2 ^ (l / 128)) (128 * m) ≡ int_le (pos 261) (pos (logarithm m) -ℤ pos q)
has_threshold m q l fits e = has_log_is m l fits (omega arith) ∙ (ap (λ t. nat_le t (logarithm m)) e ∙ reached_is (logarithm m) q (log_lt m fits))
