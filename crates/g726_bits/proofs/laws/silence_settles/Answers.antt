-- The first frame is computed; what follows is a step that changes nothing.
use Rattle.g726_bits.proofs.Silence.{only_code, settled, fixed}
use Rattle.g726_bits.proofs.laws.silence_settles.Goals as goal

pub returns : goal.returns
returns c = record { only_code = only_code; settled = settled; fixed = fixed }
