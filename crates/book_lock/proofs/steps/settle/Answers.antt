use Rattle.std.proofs.Common.{length, ap, arith}
use Rattle.book_lock.specs.Boxed.{Boxed}
use Rattle.book_lock.proofs.Turning.{not_false, counts}
use Rattle.book_lock.proofs.steps.settle.Goals as goal

pub fetch_add-requires : goal.fetch_add-requires
fetch_add-requires g c =
    let seat = c.requires.seat in
    let x = c.requires.left in
    let desk = not_false c.args.seat.now.me.0.desk (λ reads. omega (arith, ap length (x.6 reads), x.4)) in
    (seat.0, omega arith, counts (Boxed g.T.Turned.stands) _ _ c.args.count seat.2.0 c.args.seat.now.me.0 c.args.seat.now.me.1 x.0 x.1 seat.2.1 seat.1 desk x.2 x.3 x.4 x.5)
