use Rattle.std.proofs.Common.{refl}
use Rattle.session_spec.specs.Events.{commands_of}
use Rattle.session_report.proofs.Watched.{ok-with, counts-commands}
use Rattle.session_report.proofs.watching.WatchingDeskSide.commands.Goals as goal

pub returns-clause-stands : goal.returns-clause-stands
returns-clause-stands g c =
    let old = c.args.self.now in
    ok-with c.commands.result _ _
    (λ next h n b e r.
    let there = next h n b.0 e r in (
      (
        there.0,
        counts-commands old (record { desk = c.commands.new.self; streams = old.streams; lost = old.lost })
            (commands_of old.desk.plan.timed c.args.tick) c.args.tick h refl refl b.1,
      ),
      there.1,
    ))
    c.commands.ensures.stands
