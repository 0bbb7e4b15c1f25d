use Rattle.std.proofs.Common.{◌≡◌, Err, ap}
use Rattle.book_seat.specs.Steps.{PublishGives}
use Rattle.room_pool.proofs.Turning.{comes_along}
use Rattle.room_pool.proofs.turns.RoomTurnsTurns.publish.Goals as goal

pub returns-clause-comes : goal.returns-clause-comes
returns-clause-comes g c =
    comes_along c.args.self.now c.publish_last-answer.new.self _ (PublishGives c.args.done c.publish_last-answer.result) (c.publish_last-answer.result ≡ Err c.args.done)
    (ap (λ t. t.passes) c.self.view_is) c.publish_last-answer.ensures.comes
