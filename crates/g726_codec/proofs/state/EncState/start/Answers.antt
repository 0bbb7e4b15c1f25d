-- The reset's state is in the ranges.
use Rattle.g726_bits.specs.State.{start}
use Rattle.g726_bits.proofs.Runs.{start_sound}
use Rattle.g726_codec.proofs.state.EncState.start.Goals as goal

pub invariant_of-result : goal.invariant_of-result
unfolding start
invariant_of-result c = rw (c.start.ensures, c.start-2.ensures) start_sound
