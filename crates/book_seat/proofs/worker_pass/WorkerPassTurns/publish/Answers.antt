use Rattle.std.proofs.Common.{sym, subst}
use Rattle.book_seat.specs.Seated.{Working}
use Rattle.book_seat.specs.Steps.{PublishGives}
use Rattle.book_seat.specs.Taken.{TookTurn}
use Rattle.book_seat.proofs.Told.{publish-back}
use Rattle.book_seat.proofs.worker_pass.WorkerPassTurns.publish.Goals as goal

pub returns-clause-turn : goal.returns-clause-turn
returns-clause-turn g c =
    subst (λ (w : Working). TookTurn c.args.self.now.pass.view w.pass.view (PublishGives c.args.done c.publish_turn-answer.result)) (sym c.self.view_is)
    c.publish_turn-answer.ensures.turn

pub returns-clause-comes_back : goal.returns-clause-comes_back
returns-clause-comes_back g c = publish-back _ _ c.args.done c.publish_turn-answer.result c.publish_turn-answer.ensures.turn
