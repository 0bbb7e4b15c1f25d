-- The checker computes them.
use Rattle.std.proofs.Common.{refl}
use Rattle.g726_bits.specs.State.{start, scale_start, predictor_start}
use Rattle.talk_mix.specs.Mix.{mix}
use Rattle.conference_spec.proofs.rows.sessions.Goals as goal

pub returns : goal.returns
unfolding start scale_start predictor_start mix
returns c = record { late_runs = refl; late_packets = refl; late_due = refl; none_left = refl; other_rate = refl; talker_runs = refl; talker_packets = refl }
