use Rattle.std.proofs.Common.{◌∙◌, arith}
use Rattle.book_lock.specs.Boxed.{Boxed}
use Rattle.book_lock.proofs.Turning.{looks_at, entered_at}
use Rattle.book_lock.proofs.steps.enter.Goals as goal

pub load-requires : goal.load-requires
load-requires g c =
    let i = c.loop.invariant in
    (i.2 ∙ c.requires.seat.0, omega arith, looks_at (Boxed g.T.Turned.stands) _ _ c.args.ticket c.loop.seat.me c.args.seat.now.me i.3 c.requires.ticket.0 c.requires.ticket.1 c.requires.seat.1)

pub returns-then-load-ticket-clause-entered : goal.returns-then-load-ticket-clause-entered
returns-then-load-ticket-clause-entered g c =
    entered_at (Boxed g.T.Turned.stands) c.args.ticket c.load.result c.loop.seat.me c.args.seat.now.me c.load.new.seat.me c.loop.invariant.3 c.requires.ticket.0 c.if-load-ticket.true c.load.ensures.2.0
