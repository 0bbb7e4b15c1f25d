use Rattle.book_seat.proofs.Calls.{claim-steps}
use Rattle.book_seat.proofs.in_turn.claim_in.Goals as goal

pub returns : goal.returns
returns c = claim-steps c.claim.result c.args.book.now _ c.claim.ensures.claims
