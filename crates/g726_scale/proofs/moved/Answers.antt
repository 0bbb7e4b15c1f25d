use Rattle.std.proofs.Common.{arith}
use Rattle.g726_bits.proofs.Floors.{floors}
use Rattle.g726_scale.proofs.moved.Goals as goal

pub returns : goal.returns
returns c = omega (arith, floors)
