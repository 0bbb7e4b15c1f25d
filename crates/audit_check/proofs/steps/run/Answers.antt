use Rattle.std.proofs.Common.{◌≡◌, ◌∙◌}
use Rattle.std.specs.Prelude.{None}
use Rattle.session_spec.specs.Events.{feed_of}
use Rattle.session_spec.specs.Talkers.{Events}
use Rattle.roster_desk.specs.Serving.{Begins}
use Rattle.audit_check.proofs.Runs.{ran-finds}
use Rattle.audit_check.proofs.steps.run.Goals as goal

pub finish-requires-clause-stands : goal.finish-requires-clause-stands
finish-requires-clause-stands g c = (feed_of c.in-Ok.ensures.stands.0, c.in-Ok.ensures.stands.2)

pub returns-in-Ok-clause-told : goal.returns-in-Ok-clause-told
returns-in-Ok-clause-told g c =
    ran-finds (g.S.Source.rest c.args.dump.now) c.args.roster c.new-desk.result.plan.timed c.ticks-ticks.result c.args.out c.run_session.new.conference.compare.out
    (g.S.Source.rest c.run_session.new.dump) None None (λ (h : Events). Begins c.run_session.new.desk h) c.run_session.new.conference c.in-Ok.field-0 c.finish.result
    c.new-desk.ensures.plan c.ticks-ticks.ensures.value (c.in-Ok.ensures.post ∙ c.new-checking.ensures.out) c.finish.ensures.judged c.in-Ok.ensures.ran
