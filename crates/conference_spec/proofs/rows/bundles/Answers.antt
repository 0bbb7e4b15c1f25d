-- The checker computes them.
use Rattle.std.proofs.Common.{refl}
use Rattle.g726_bits.specs.State.{start, scale_start, predictor_start}
use Rattle.talk_mix.specs.Mix.{mix}
use Rattle.conference_spec.proofs.rows.bundles.Goals as goal

pub returns : goal.returns
unfolding start scale_start predictor_start mix
returns c = record { ticks = refl; left = refl; none_before = refl; left_early = refl; next_tick = refl; none_after = refl }
