use Rattle.std.proofs.Common.{◌∙◌, ap, sym, arith}
use Rattle.session_spec.specs.Talkers.{Events}
use Rattle.conference_spec.specs.Feed.{Feed}
use Rattle.roster_desk.specs.Serving.{Begins}
use Rattle.session_account.specs.Speaking.{muted}
use Rattle.session_account.proofs.TickSums.{muted-silent}
use Rattle.session_report.specs.Watching.{Counts}
use Rattle.session_report.specs.Noting.{Notes}
use Rattle.session_report.proofs.Runs.{ran-finds}
use Rattle.session_report.proofs.steps.run.Goals as goal

pub new-noting-requires : goal.new-noting-requires
new-noting-requires g c = ap muted c.in_ok-voices.ensures ∙ muted-silent c.args.roster.timed ∙ sym c.in_ok-voices.ensures

pub returns-in-Ok-clause-told : goal.returns-in-Ok-clause-told
returns-in-Ok-clause-told g c =
    ran-finds (g.S.Source.rest c.args.dump.now) (g.S.Source.rest c.run_session.new.dump) c.args.roster c.new-desk.result.desk.plan.timed
    (muted c.run_session.new.conference.voices) c.ticks-ticks.result c.in-Ok.packets (λ (h : Events). Begins c.run_session.new.desk.desk h × Counts c.run_session.new.desk h)
    (λ (f : Feed). Notes c.run_session.new.conference f c.ticks-ticks.result) c.close.result c.new-desk.ensures.plan
    (c.in-Ok.ensures.post ∙ ap muted (c.new-noting.ensures.voices ∙ c.in_ok-voices.ensures) ∙ muted-silent c.args.roster.timed) c.ticks-ticks.ensures.value (omega (arith, c.ticks-ticks.ensures.bound)) c.close.ensures.ends
    c.close.ensures.sums_up c.in-Ok.ensures.ran
