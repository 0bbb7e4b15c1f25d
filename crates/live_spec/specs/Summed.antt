-- What a live session comes to.
use Rattle.std.specs.Prelude.{ℕ, zero, suc, ◌+◌, Bool, not, List, ◌++◌, length, filter, is_ok, is_err}
use Rattle.roster_text.specs.declared.commands.Timed.{Timed}
use Rattle.rtcp_pack.specs.Compound.{compound}
use Rattle.conference_spec.specs.Coding.{Coder}
use Rattle.conference_spec.specs.Packets.{rest}
use Rattle.conference_spec.specs.Feed.{Feed}
use Rattle.conference_spec.specs.Tasks.{due}
use Rattle.session_spec.specs.Events.{feed_of, refused}
use Rattle.session_spec.specs.Answer.{sent_to}
use Rattle.live_spec.specs.declared.LiveSummary.{LiveSummary}
use Rattle.live_spec.specs.Heard.{Live, controls, live_events}
use Rattle.live_spec.specs.Reports.{tick_reports, end_reports}

-- how many reports the ticks before k send
abbrev pub reports_before : Coder → ℕ → Feed → ℕ
reports_before coder zero h = 0
reports_before coder (suc k) h = reports_before coder k h + length (tick_reports coder k h)

-- the numbers of a session of so many ticks, of whose letters these went and those didn't
abbrev pub live_summary : Coder → List Timed → ℕ → Live → List Bool → LiveSummary
live_summary coder plan ticks live went =
    let h = feed_of (live_events plan live ticks) in
    record {
      ticks = ticks;
      runs = due coder h;
      packets = length (sent_to coder ticks h ++ rest coder h);
      refused = refused (live_events plan live ticks) + length (filter (λ o. is_err (compound o)) (controls live ticks));
      unsent = length (filter not went);
      reports = reports_before coder ticks h + length (end_reports coder ticks h);
      heard = length (filter (λ o. is_ok (compound o)) (controls live ticks));
    }
