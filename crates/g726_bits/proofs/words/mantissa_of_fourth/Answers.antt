-- The mantissa, by the lemmas on lengths and floats.
use Rattle.std.proofs.Common.{◌≡◌, ◌*◌, ◌/◌, arith}
use Rattle.g726_bits.proofs.FloatLemmas.{mantissa_of_fourth, mantissa-lt}
use Rattle.g726_bits.proofs.words.mantissa_of_fourth.Goals as goal

pub returns-clause-value : goal.returns-clause-value
returns-clause-value c =
    let n = c.args.four / 4 in
    let number : 4 * n ≡ c.args.four = omega (arith, c.requires.whole) in
    let e = mantissa_of_fourth n c.length_of_fourth.result (omega arith) c.length_of_fourth.ensures.value in
    rw number at e

pub returns-clause-within : goal.returns-clause-within
returns-clause-within c =
    omega (arith, returns-clause-value c, mantissa-lt (c.args.four / 4) (omega arith))
