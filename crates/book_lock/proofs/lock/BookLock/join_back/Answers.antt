use Rattle.std.proofs.Common.{ap, ◌∙◌, arith, rules}
use Rattle.book_lock.specs.Boxed.{Boxed}
use Rattle.book_lock.specs.Known.{Known}
use Rattle.book_lock.proofs.Passes.{joins}
use Rattle.book_lock.proofs.lock.BookLock.join_back.Goals as goal

pub join_seat-requires : goal.join_seat-requires
join_seat-requires g c =
    let desk = ap (λ (k : Known g.row.T-Entry.Denot g.row.T-State.Denot). k.view.desk) c.pass.view_is ∙ c.requires.desk in
    let works = ap (λ (k : Known g.row.T-Entry.Denot g.row.T-State.Denot). k.view.worker) c.other.view_is ∙ c.requires.worker in
    ((search rules), (search rules), c.other.invariant.1, omega (arith, c.self.invariant.0), joins (Boxed g.T.Turned.stands) _ _ c.pass.inside.seat.me.0 c.other.inside.seat.me.0 c.pass.invariant.0 desk c.other.invariant.0 works)
