use Rattle.std.proofs.Common.{rules, subst}
use Rattle.book_seat.specs.Seated.{Working}
use Rattle.book_seat.proofs.Told.{give-back}
use Rattle.book_seat.specs.Steps.{BackGives}
use Rattle.book_seat.specs.Taken.{Steps, TookTurn}
use Rattle.book_seat.proofs.Feeds.{back-appends}
use Rattle.book_seat.proofs.Turning.{at_mut, may_append, took_turn}
use Rattle.book_seat.proofs.worker_pass.WorkerPassTurns.give_back.Goals as goal

pub turn-requires-clause-appends : goal.turn-requires-clause-appends
turn-requires-clause-appends g c r x y feed state st may done =
    let steps : Steps (BackGives c.args.job r) done.shown.now done.left.now = search rules in
    may_append c.self.inside.pass.view (BackGives c.args.job r) (back-appends c.self.inside.pass.view c.args.job r) x y feed state
    (at_mut (BackGives c.args.job r) x y done.shown.now done.left.now done.shows done.leaves steps) st

pub returns-clause-turn : goal.returns-clause-turn
returns-clause-turn g c =
    let step = BackGives c.args.job c.turn.result in
    subst (λ (p : Working). TookTurn p.pass.view c.turn.new.pass.view step) c.self.view_is
    (took_turn c.self.inside.pass.view c.turn.new.pass.view step _ (back-appends c.self.inside.pass.view c.args.job c.turn.result)
    (λ x y done.
    let steps : Steps step done.shown.now done.left.now = search rules in
    at_mut step x y done.shown.now done.left.now done.shows done.leaves steps)
    c.turn.ensures.turn)

pub returns-clause-comes_back : goal.returns-clause-comes_back
returns-clause-comes_back g c = give-back c.args.self.now.pass.view _ c.args.job c.turn.result (returns-clause-turn g c)
