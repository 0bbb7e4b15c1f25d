use Rattle.std.proofs.Common.{ap, ◌∙◌, arith, rules}
use Rattle.book_lock.specs.Boxed.{Boxed}
use Rattle.book_lock.specs.Known.{Known}
use Rattle.book_lock.proofs.Passes.{splits}
use Rattle.book_lock.proofs.lock.BookLock.split.Goals as goal

pub split_seat-seat-requires : goal.split_seat-seat-requires
split_seat-seat-requires g c =
    let is = ap (λ (k : Known g.row.T-Entry.Denot g.row.T-State.Denot). k.view.desk) c.pass.view_is in
    ((search rules), omega (arith, c.self.invariant.0), splits (Boxed g.T.Turned.stands) _ c.pass.inside.seat.me.0 c.pass.invariant.0 (is ∙ c.requires.desk))
