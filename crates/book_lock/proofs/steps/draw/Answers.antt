use Rattle.std.proofs.Common.{◌∙◌, arith}
use Rattle.book_lock.specs.Boxed.{Boxed}
use Rattle.book_lock.proofs.Turning.{draws_at}
use Rattle.book_lock.proofs.steps.draw.Goals as goal

pub compare_exchange-found-requires : goal.compare_exchange-found-requires
compare_exchange-found-requires g c =
    let i = c.loop.invariant in
    (i.2 ∙ c.requires.seat.0, omega arith, draws_at (Boxed g.T.Turned.stands) _ _ c.loop.next c.loop.seat.me c.args.seat.now.me i.3 c.requires.seat.1 c.requires.seat.2 c.if-next-lt18446744073709551615.true)
