use Rattle.std.proofs.Common.{Some}
use Rattle.book_lock.proofs.Turning.{alone}
use Rattle.book_lock.proofs.steps.take_out.Goals as goal

pub exchange-out-requires : goal.exchange-out-requires
exchange-out-requires g c = let x = c.requires.1 in (c.requires.0, (Some x.0, alone c.args.seat.now.me.1 (Some x.0) x.1))
