use Rattle.std.proofs.Common.{rules, subst}
use Rattle.book_seat.specs.Seated.{Working}
use Rattle.book_seat.proofs.Told.{claim-over, claim-wanted}
use Rattle.book_seat.specs.Steps.{ClaimGives}
use Rattle.book_seat.specs.Taken.{Steps, TookTurn}
use Rattle.book_seat.proofs.Feeds.{claim-appends}
use Rattle.book_seat.proofs.Turning.{at_mut, may_append, took_turn}
use Rattle.book_seat.proofs.worker_pass.WorkerPassTurns.claim.Goals as goal

pub turn-requires-clause-appends : goal.turn-requires-clause-appends
turn-requires-clause-appends g c r x y feed state st may done =
    let steps : Steps (ClaimGives r) done.shown.now done.left.now = search rules in
    may_append c.self.inside.pass.view (ClaimGives r) (claim-appends c.self.inside.pass.view r) x y feed state
    (at_mut (ClaimGives r) x y done.shown.now done.left.now done.shows done.leaves steps) st

pub returns-clause-turn : goal.returns-clause-turn
returns-clause-turn g c =
    let step = ClaimGives c.turn.result in
    subst (λ (p : Working). TookTurn p.pass.view c.turn.new.pass.view step) c.self.view_is
    (took_turn c.self.inside.pass.view c.turn.new.pass.view step _ (claim-appends c.self.inside.pass.view c.turn.result)
    (λ x y done.
    let steps : Steps step done.shown.now done.left.now = search rules in
    at_mut step x y done.shown.now done.left.now done.shows done.leaves steps)
    c.turn.ensures.turn)

pub returns-clause-over : goal.returns-clause-over
returns-clause-over g c = claim-over c.args.self.now.pass.view _ c.turn.result (returns-clause-turn g c)

pub returns-clause-wanted : goal.returns-clause-wanted
returns-clause-wanted g c = claim-wanted c.args.self.now.pass.view _ c.turn.result (returns-clause-turn g c)
