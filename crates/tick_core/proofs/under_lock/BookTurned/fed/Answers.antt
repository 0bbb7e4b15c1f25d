use Rattle.tick_core.specs.Locking.{core_of}
use Rattle.tick_core.proofs.under_lock.BookTurned.fed.Goals as goal

pub returns : goal.returns
returns c feed parts s = c.fed.ensures (core_of feed parts) s
