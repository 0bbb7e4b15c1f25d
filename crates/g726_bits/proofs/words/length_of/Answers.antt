-- One digit less than the odd number has, and only one count is right.
use Rattle.std.proofs.Common.{◌≡◌, ℕ, zero, suc, ◌+◌, ◌-◌, ◌*◌, ◌^◌, ◌<◌, ◌≤◌, ◌∙◌, arith}
use Rattle.std.proofs.Math.Nat.{pow-suc}
use Rattle.std.proofs.lemmas.Nat.{leading_length}
use Rattle.g726_bits.specs.Numbers.{binary_length}
use Rattle.g726_bits.proofs.Lengths.{IsLength, length_unique, binary_length_is, length_15}
use Rattle.g726_bits.proofs.words.length_of.Goals as goal

one_less : (n m : ℕ) → 2 * n + 1 < 2 ^ m → 2 ^ m ≤ 2 * (2 * n + 1) + 1 → IsLength n (m - 1)
one_less n zero below above = absurd (omega arith)
one_less n (suc d) below above =
    let is : IsLength n d = record { below = omega (arith, pow-suc 2 d); above = omega (arith, pow-suc 2 d) } in
    let e : d ≡ suc d - 1 = omega arith in
    rw e at is

pub returns-clause-value : goal.returns-clause-value
returns-clause-value c =
    let n = c.args.magnitude in
    let (m, is, below, above) = leading_length 32 (2 * n + 1) (omega arith) in
    omega arith ∙ length_unique n (m - 1) (binary_length n) (one_less n m below above) (binary_length_is n (omega arith))

pub returns-clause-within : goal.returns-clause-within
returns-clause-within c =
    omega (arith, returns-clause-value c, length_15 c.args.magnitude (omega arith))
