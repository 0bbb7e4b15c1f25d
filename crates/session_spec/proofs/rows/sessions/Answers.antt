-- The checker computes them.
use Rattle.std.proofs.Common.{refl}
use Rattle.g726_bits.specs.State.{start, scale_start, predictor_start}
use Rattle.rtp_dump.specs.Capture.{capture, records_from, line_at}
use Rattle.jitter_line.specs.Histories.{said}
use Rattle.talk_mix.specs.Choice.{chosen}
use Rattle.talk_mix.specs.Mix.{mix}
use Rattle.session_spec.specs.Answer.{written}
use Rattle.session_spec.proofs.rows.sessions.Goals as goal

pub returns : goal.returns
unfolding start scale_start predictor_start capture records_from line_at said chosen mix written
returns c = record { one_talker = refl; unknown = refl; talks_and_listens = refl; runs = refl; answer = refl; cut_short = refl; nothing = refl; bundles = refl; left = refl; left_by_a_fault = refl }
