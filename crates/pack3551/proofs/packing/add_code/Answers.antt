-- A code of five bits at most is below 32.
use Rattle.std.proofs.Common.{arith}
use Rattle.std.proofs.Math.Pow.{pow_mono}
use Rattle.pack3551.proofs.packing.add_code.Goals as goal

pub joined-value-requires-clause-code : goal.joined-value-requires-clause-code
joined-value-requires-clause-code c = omega (arith, pow_mono {i = c.args.bits} {j = 5} c.requires.bits)
