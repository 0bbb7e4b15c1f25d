use Rattle.std.proofs.Common.{refl}
use Rattle.book_seat.proofs.in_turn.cut_in.Goals as goal

pub returns : goal.returns
returns c = record { each = λ core st. let t = c.cut.ensures.cut core st in (_, t.1, (t.0, refl)) }
