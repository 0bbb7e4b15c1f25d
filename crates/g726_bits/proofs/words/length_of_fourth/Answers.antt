-- Two digits more than the magnitude has, and only one count is right.
use Rattle.std.proofs.Common.{◌≡◌, ℕ, zero, suc, ◌+◌, ◌-◌, ◌*◌, ◌/◌, ◌^◌, ◌<◌, ◌≤◌, arith}
use Rattle.std.proofs.Math.Nat.{pow-suc}
use Rattle.std.proofs.lemmas.Nat.{leading_length}
use Rattle.g726_bits.specs.Numbers.{binary_length}
use Rattle.g726_bits.proofs.Lengths.{IsLength, length_unique, binary_length_is, length_13}
use Rattle.g726_bits.proofs.words.length_of_fourth.Goals as goal

two_less : (n m : ℕ) → 4 * n + 2 < 2 ^ m → 2 ^ m ≤ 2 * (4 * n + 2) + 1 → IsLength n (m - 2)
two_less n zero below above = absurd (omega arith)
two_less n (suc zero) below above = absurd (omega arith)
two_less n (suc (suc d)) below above =
    let is : IsLength n d =
    record { below = omega (arith, pow-suc 2 d, pow-suc 2 (suc d)); above = omega (arith, pow-suc 2 d, pow-suc 2 (suc d)) } in
    let e : d ≡ suc (suc d) - 2 = omega arith in
    rw e at is

two_at_least : (n m : ℕ) → 4 * n + 2 < 2 ^ m → 2 ≤ m
two_at_least n zero below = absurd (omega arith)
two_at_least n (suc zero) below = absurd (omega arith)
two_at_least n (suc (suc d)) below = omega arith

pub returns-clause-value : goal.returns-clause-value
returns-clause-value c =
    let n = c.args.four / 4 in
    let number : c.args.four + 2 ≡ 4 * n + 2 = omega (arith, c.requires.whole) in
    let (m, is, below, above) = leading_length 32 (c.args.four + 2) (omega arith) in
    let length : m - 2 ≡ binary_length n =
    length_unique n (m - 2) (binary_length n) (two_less n m (omega (arith, number, below)) (omega (arith, number, above))) (binary_length_is n (omega arith)) in
    omega (arith, length, is, two_at_least n m (omega (arith, number, below)))

pub returns-clause-within : goal.returns-clause-within
returns-clause-within c =
    omega (arith, returns-clause-value c, length_13 (c.args.four / 4) (omega arith))
