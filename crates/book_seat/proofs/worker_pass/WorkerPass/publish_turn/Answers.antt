use Rattle.std.proofs.Common.{rules, subst}
use Rattle.book_seat.specs.Seated.{Working}
use Rattle.book_seat.specs.Steps.{PublishGives}
use Rattle.book_seat.specs.Taken.{Steps, TookTurn}
use Rattle.book_seat.proofs.Feeds.{publish-appends}
use Rattle.book_seat.proofs.Turning.{at_mut, may_append, took_turn}
use Rattle.book_seat.proofs.worker_pass.WorkerPass.publish_turn.Goals as goal

pub turn-requires-clause-appends : goal.turn-requires-clause-appends
turn-requires-clause-appends g c r x y feed state st may done =
    let steps : Steps (PublishGives c.args.done r) done.shown.now done.left.now = search rules in
    may_append c.self.inside.pass.view (PublishGives c.args.done r) (publish-appends c.self.inside.pass.view c.args.done r) x y feed state
    (at_mut (PublishGives c.args.done r) x y done.shown.now done.left.now done.shows done.leaves steps) st

pub returns-clause-turn : goal.returns-clause-turn
returns-clause-turn g c =
    let step = PublishGives c.args.done c.turn.result in
    subst (λ (p : Working). TookTurn p.pass.view c.turn.new.pass.view step) c.self.view_is
    (took_turn c.self.inside.pass.view c.turn.new.pass.view step _ (publish-appends c.self.inside.pass.view c.args.done c.turn.result)
    (λ x y done.
    let steps : Steps step done.shown.now done.left.now = search rules in
    at_mut step x y done.shown.now done.left.now done.shows done.leaves steps)
    c.turn.ensures.turn)
