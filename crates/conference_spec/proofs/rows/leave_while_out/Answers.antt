-- The checker computes them.
use Rattle.std.proofs.Common.{refl}
use Rattle.g726_bits.specs.State.{start, scale_start, predictor_start}
use Rattle.talk_mix.specs.Mix.{mix}
use Rattle.conference_spec.proofs.rows.leave_while_out.Goals as goal

pub returns : goal.returns
unfolding start scale_start predictor_start mix
returns c = record { issued = refl; packets = refl; not_before = refl; no_third = refl }
