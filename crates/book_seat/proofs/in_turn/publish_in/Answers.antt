use Rattle.book_seat.proofs.Calls.{publish-steps}
use Rattle.book_seat.proofs.in_turn.publish_in.Goals as goal

pub returns : goal.returns
returns c = publish-steps c.args.done c.publish.result c.args.book.now _ c.publish.ensures.publishes
