-- The checker computes them.
use Rattle.std.proofs.Common.{refl}
use Rattle.g726_bits.specs.State.{start, scale_start, predictor_start}
use Rattle.talk_mix.specs.Mix.{mix}
use Rattle.conference_spec.proofs.rows.cuts.Goals as goal

pub returns : goal.returns
unfolding start scale_start predictor_start mix
returns c = record {
  all_collected = refl;
  not_collected = refl;
  none_closed = refl;
  twice = refl;
  after_end = refl;
  used_before = refl;
  counted = refl;
  from_a_cut = refl;
  here = refl;
  owed = refl;
  gone = refl;
  gone_owed = refl;
  paid = refl;
  goes_on = refl;
}
