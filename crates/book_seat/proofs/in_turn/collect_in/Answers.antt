use Rattle.book_seat.proofs.Calls.{collect-steps}
use Rattle.book_seat.proofs.in_turn.collect_in.Goals as goal

pub returns : goal.returns
returns c = collect-steps c.collect.result c.args.book.now _ c.collect.ensures.collects
