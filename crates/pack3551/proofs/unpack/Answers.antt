-- A frame's codes are 160 of those of any payload.
use Rattle.std.proofs.Common.{◌∙◌, ap}
use Rattle.g726_bits.specs.Packing.{unpacked}
use Rattle.pack3551.proofs.RoundTrips.{unpacked-packed}
use Rattle.pack3551.proofs.unpack.Goals as goal

pub returns-clause-value : goal.returns-clause-value
unfolding unpacked
returns-clause-value c = c.unpack_all.ensures.value

pub returns-clause-back : goal.returns-clause-back
returns-clause-back c = λ codes long small e.
    returns-clause-value c ∙ (ap (unpacked c.args.rate) e ∙ unpacked-packed c.args.rate codes long small)
