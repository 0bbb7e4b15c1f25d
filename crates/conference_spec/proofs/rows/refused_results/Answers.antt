-- The checker computes them.
use Rattle.std.proofs.Common.{refl}
use Rattle.g726_bits.specs.State.{start, scale_start, predictor_start}
use Rattle.talk_mix.specs.Mix.{mix}
use Rattle.conference_spec.proofs.rows.refused_results.Goals as goal

pub returns : goal.returns
unfolding start scale_start predictor_start mix
returns c = record { another = refl; twice = refl; given_back = refl; given_twice = refl }
