use Rattle.std.proofs.Common.{sym, ap, ◌∙◌, subst}
use Rattle.book_lock.specs.Boxed.{Boxed}
use Rattle.book_lock.specs.Known.{Known}
use Rattle.book_lock.proofs.Passes.{closes}
use Rattle.book_lock.proofs.Turning.{some_is, no_some}
use Rattle.book_lock.proofs.lock.BookLock.close.Goals as goal

pub unreachable-requires : goal.unreachable-requires
unreachable-requires g c =
    let desk = ap (λ (k : Known g.row.T-Entry.Denot g.row.T-State.Denot). k.view.desk) c.pass.view_is ∙ c.requires.desk in
    let none_out = ap (λ (k : Known g.row.T-Entry.Denot g.row.T-State.Denot). k.view.out) c.pass.view_is ∙ c.requires.alone in
    let p = closes (Boxed g.T.Turned.stands) c.pass.inside.seat.id c.pass.inside.seat.me.0 _ _ c.take-slot.result c.pass.invariant.0 desk none_out c.close_with-closed.ensures.values.2 c.take-slot.ensures.value in
    no_some (sym c.in_default.is ∙ p.2)

pub returns : goal.returns
returns g c =
    let desk = ap (λ (k : Known g.row.T-Entry.Denot g.row.T-State.Denot). k.view.desk) c.pass.view_is ∙ c.requires.desk in
    let none_out = ap (λ (k : Known g.row.T-Entry.Denot g.row.T-State.Denot). k.view.out) c.pass.view_is ∙ c.requires.alone in
    let p = closes (Boxed g.T.Turned.stands) c.pass.inside.seat.id c.pass.inside.seat.me.0 _ _ c.take-slot.result c.pass.invariant.0 desk none_out c.close_with-closed.ensures.values.2 c.take-slot.ensures.value in
    let x = some_is (sym p.2 ∙ c.in-Some.is) in
    let seen = ap (λ (k : Known g.row.T-Entry.Denot g.row.T-State.Denot). k.view.seen) c.pass.view_is in
    record { stands = (p.1, subst (λ y. g.T.Turned.stands y c.args.pass.view.seen p.1) (sym c.into_inner.ensures) (subst (λ y. Boxed g.T.Turned.stands y c.args.pass.view.seen p.1) x (subst (λ h. Boxed g.T.Turned.stands p.0 h p.1) seen p.3))) }
