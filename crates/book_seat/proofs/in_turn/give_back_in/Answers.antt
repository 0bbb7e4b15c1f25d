use Rattle.book_seat.proofs.Calls.{back-steps}
use Rattle.book_seat.proofs.in_turn.give_back_in.Goals as goal

pub returns : goal.returns
returns c = back-steps c.args.job c.give_back.result c.args.book.now _ c.give_back.ensures.gives_back
