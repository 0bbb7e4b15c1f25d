use Rattle.desk_run.proofs.Results.{ok-with}
use Rattle.live_run.proofs.Standing.{joined}
use Rattle.live_run.proofs.tallied.TalliedAudience.join.Goals as goal

pub returns-clause-stands : goal.returns-clause-stands
returns-clause-stands g c =
    ok-with c.join-2.result _ _
    (λ stands. joined (λ f m. g.C.Audience.stands c.args.self.now.conference f m) c.args.self.now.tallies c.args.self.now.closed
    (λ f m. g.C.Audience.stands c.join-2.new.self f m) c.join.new.self c.args.spec c.in_ok-join.ensures stands)
    c.join-2.ensures.stands
