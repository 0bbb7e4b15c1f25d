-- What is left of 32 digits without the leading zeros is a length, and only one number is.
use Rattle.std.proofs.Common.{◌∙◌, arith}
use Rattle.std.proofs.lemmas.Nat.{leading_length}
use Rattle.g726_bits.specs.Numbers.{binary_length}
use Rattle.g726_bits.proofs.Lengths.{length_unique, binary_length_is}
use Rattle.g726_bits.proofs.words.bit_len.Goals as goal

pub returns-clause-value : goal.returns-clause-value
returns-clause-value c =
    let v = c.args.v in
    let (m, is, below, above) = leading_length 32 v (omega arith) in
    omega arith ∙ length_unique v m (binary_length v) (record { below = below; above = above }) (binary_length_is v (omega arith))
