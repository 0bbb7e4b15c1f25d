-- The checker computes them.
use Rattle.std.proofs.Common.{refl}
use Rattle.g726_bits.specs.State.{start, scale_start, predictor_start}
use Rattle.talk_mix.specs.Mix.{mix}
use Rattle.conference_spec.proofs.rows.refused_entries.Goals as goal

pub returns : goal.returns
unfolding start scale_start predictor_start mix
returns c = record { used = refl; used_after_leave = refl; absent = refl; early = refl; room_for_close = refl; backlog = refl; backlog_collected = refl; room_for_join = refl; full = refl; idle = refl }
