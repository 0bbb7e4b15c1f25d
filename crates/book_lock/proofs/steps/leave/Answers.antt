use Rattle.std.proofs.Common.{arith}
use Rattle.book_lock.specs.Boxed.{Boxed}
use Rattle.book_lock.proofs.Turning.{passes_at}
use Rattle.book_lock.proofs.steps.leave.Goals as goal

pub fetch_add-requires : goal.fetch_add-requires
fetch_add-requires g c =
    let turn = c.requires.turn in
    let x = c.requires.value in
    (c.requires.home, omega arith, passes_at (Boxed g.T.Turned.stands) _ _ turn.1.0 c.args.seat.now.me x.0 x.1 turn.2.0 x.2 turn.1.1 turn.0 turn.2.1 x.3)
