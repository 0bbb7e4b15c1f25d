-- The two shifts and a mask are the two cases of the definition.
use Rattle.g726_bits.proofs.FloatLemmas.{scaled_is}
use Rattle.g726_bits.proofs.words.scale_mantissa.Goals as goal

pub returns-clause-value : goal.returns-clause-value
returns-clause-value c =
    rw c.from.ensures (scaled_is c.args.more c.args.mant c.requires.some c.requires.exponent c.requires.mantissa)
