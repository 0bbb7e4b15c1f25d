use Rattle.live_run.proofs.Standing.{left}
use Rattle.live_run.proofs.tallied.TalliedAudience.leave.Goals as goal

pub returns-clause-stands : goal.returns-clause-stands
returns-clause-stands g c =
    left (λ f m. g.C.Audience.stands c.args.self.now.conference f m) c.args.self.now.tallies c.args.self.now.closed
    (λ f m. g.C.Audience.stands c.leave-2.new.self f m) c.leave.new.self c.args.member c.leave.ensures.left c.leave.ensures.nobody c.leave-2.ensures.stands
