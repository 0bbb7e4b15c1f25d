use Rattle.std.proofs.Common.{refl}
use Rattle.book_seat.proofs.in_turn.issued_in.Goals as goal

pub returns : goal.returns
returns c = record { each = λ core st. (core, st, (c.issued.ensures core st, refl)) }
