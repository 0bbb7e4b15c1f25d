-- The mantissa, by the lemmas on lengths and floats.
use Rattle.std.proofs.Common.{arith}
use Rattle.g726_bits.proofs.FloatLemmas.{mantissa_is, mantissa-lt}
use Rattle.g726_bits.proofs.words.mantissa_of.Goals as goal

pub returns-clause-value : goal.returns-clause-value
returns-clause-value c = mantissa_is c.args.magnitude c.length_of.result (omega arith) c.length_of.ensures.value

pub returns-clause-within : goal.returns-clause-within
returns-clause-within c =
    omega (arith, returns-clause-value c, mantissa-lt c.args.magnitude (omega arith))
