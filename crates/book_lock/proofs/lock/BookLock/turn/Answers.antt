use Rattle.std.proofs.Common.{◌-◌, ◌<◌, Option, Box, Global, ap, arith, rules}
use Rattle.std.specs.Fn.{FnOnceReturnsAtMut}
use Rattle.atomic_table.specs.Table.{Me}
use Rattle.book_lock.specs.declared.view.View.{View}
use Rattle.book_lock.specs.Boxed.{Boxed}
use Rattle.book_lock.specs.Known.{Known}
use Rattle.book_lock.proofs.Upkeep.{goes_longer}
use Rattle.book_lock.proofs.Wholes.{begun, put, settles, ended, leaves_now, over, whole_turn, unboxed, appends_to}
use Rattle.book_lock.proofs.lock.BookLock.turn.Goals as goal

pub take_out-value-requires : goal.take_out-value-requires
take_out-value-requires g c = let e = c.enter.ensures.entered in (search rules, (e.2, ap (λ (m : Me (Option (Box g.row.T.Denot Global)) (View g.row.T-Entry.Denot g.row.T-State.Denot)). m.1) e.5))

pub overflow_sub-appended : goal.overflow_sub-appended
overflow_sub-appended g c =
    let is = ap (λ (k : Known g.row.T-Entry.Denot g.row.T-State.Denot). k.view) c.pass.view_is in
    let v = c.pass.inside.seat.me.0 in
    let t = c.draw-ticket.result in
    let x = c.take_out-value.result in
    let y = c.called-answer.new.boxed in
    let b = begun (Boxed g.T.Turned.stands) v t x c.draw-ticket.new.seat.me c.enter.new.seat.me c.take_out-value.new.seat.me c.draw-ticket.ensures.drawn c.enter.ensures.entered c.take_out-value.ensures.value c.take_out-value.ensures.seat in
    let a = appends_to g.T.Turned.stands _ v c.args.pass.now.view b.0 b.1 x.value y.value is (c.requires.appends c.called-answer.result) b.2 b.3 c.called-answer.ensures in
    omega (arith, c.fed-before.ensures b.0 b.1 (rw c.deref.ensures b.2), c.fed.ensures a.0 a.1 (rw c.deref-2.ensures a.2), goes_longer a.3)

pub settle-requires-clause-left : goal.settle-requires-clause-left
settle-requires-clause-left g c =
    let is = ap (λ (k : Known g.row.T-Entry.Denot g.row.T-State.Denot). k.view) c.pass.view_is in
    let v = c.pass.inside.seat.me.0 in
    let t = c.draw-ticket.result in
    let x = c.take_out-value.result in
    let y = c.called-answer.new.boxed in
    let b = begun (Boxed g.T.Turned.stands) v t x c.draw-ticket.new.seat.me c.enter.new.seat.me c.take_out-value.new.seat.me c.draw-ticket.ensures.drawn c.enter.ensures.entered c.take_out-value.ensures.value c.take_out-value.ensures.seat in
    let a = appends_to g.T.Turned.stands _ v c.args.pass.now.view b.0 b.1 x.value y.value is (c.requires.appends c.called-answer.result) b.2 b.3 c.called-answer.ensures in
    let back = put (Boxed g.T.Turned.stands) _ y _ c.put_back.new.seat.me b.4 c.put_back.ensures.seat in
    let before = c.fed-before.ensures b.0 b.1 (rw c.deref.ensures b.2) in
    let after = c.fed.ensures a.0 a.1 (rw c.deref-2.ensures a.2) in
    let fits : c.fed.result < 18446744073709551616 = search rules in
    settles (Boxed g.T.Turned.stands) v t b.0 b.1 y c.put_back.new.seat.me (c.fed.result - c.fed-before.result) back a.0 a.1 a.2 a.3 (omega (arith, before, after, goes_longer a.3)) (omega (arith, after, fits)) a.4

pub leave-requires-clause-turn : goal.leave-requires-clause-turn
leave-requires-clause-turn g c =
    let is = ap (λ (k : Known g.row.T-Entry.Denot g.row.T-State.Denot). k.view) c.pass.view_is in
    let v = c.pass.inside.seat.me.0 in
    let t = c.draw-ticket.result in
    let x = c.take_out-value.result in
    let y = c.called-answer.new.boxed in
    let b = begun (Boxed g.T.Turned.stands) v t x c.draw-ticket.new.seat.me c.enter.new.seat.me c.take_out-value.new.seat.me c.draw-ticket.ensures.drawn c.enter.ensures.entered c.take_out-value.ensures.value c.take_out-value.ensures.seat in
    let a = appends_to g.T.Turned.stands _ v c.args.pass.now.view b.0 b.1 x.value y.value is (c.requires.appends c.called-answer.result) b.2 b.3 c.called-answer.ensures in
    let back = put (Boxed g.T.Turned.stands) _ y _ c.put_back.new.seat.me b.4 c.put_back.ensures.seat in
    let e = ended (Boxed g.T.Turned.stands) v t b.0 b.1 y c.put_back.new.seat.me c.settle.new.seat.me back c.settle.ensures.left in
    let n = leaves_now (Boxed g.T.Turned.stands) v t b.0 b.1 y c.settle.new.seat.me e in
    n.0

pub leave-requires-clause-value : goal.leave-requires-clause-value
leave-requires-clause-value g c =
    let is = ap (λ (k : Known g.row.T-Entry.Denot g.row.T-State.Denot). k.view) c.pass.view_is in
    let v = c.pass.inside.seat.me.0 in
    let t = c.draw-ticket.result in
    let x = c.take_out-value.result in
    let y = c.called-answer.new.boxed in
    let b = begun (Boxed g.T.Turned.stands) v t x c.draw-ticket.new.seat.me c.enter.new.seat.me c.take_out-value.new.seat.me c.draw-ticket.ensures.drawn c.enter.ensures.entered c.take_out-value.ensures.value c.take_out-value.ensures.seat in
    let a = appends_to g.T.Turned.stands _ v c.args.pass.now.view b.0 b.1 x.value y.value is (c.requires.appends c.called-answer.result) b.2 b.3 c.called-answer.ensures in
    let back = put (Boxed g.T.Turned.stands) _ y _ c.put_back.new.seat.me b.4 c.put_back.ensures.seat in
    let e = ended (Boxed g.T.Turned.stands) v t b.0 b.1 y c.put_back.new.seat.me c.settle.new.seat.me back c.settle.ensures.left in
    let n = leaves_now (Boxed g.T.Turned.stands) v t b.0 b.1 y c.settle.new.seat.me e in
    n.1

pub returns-clause-turn : goal.returns-clause-turn
returns-clause-turn g c =
    let is = ap (λ (k : Known g.row.T-Entry.Denot g.row.T-State.Denot). k.view) c.pass.view_is in
    let v = c.pass.inside.seat.me.0 in
    let t = c.draw-ticket.result in
    let x = c.take_out-value.result in
    let y = c.called-answer.new.boxed in
    let b = begun (Boxed g.T.Turned.stands) v t x c.draw-ticket.new.seat.me c.enter.new.seat.me c.take_out-value.new.seat.me c.draw-ticket.ensures.drawn c.enter.ensures.entered c.take_out-value.ensures.value c.take_out-value.ensures.seat in
    let a = appends_to g.T.Turned.stands _ v c.args.pass.now.view b.0 b.1 x.value y.value is (c.requires.appends c.called-answer.result) b.2 b.3 c.called-answer.ensures in
    let back = put (Boxed g.T.Turned.stands) _ y _ c.put_back.new.seat.me b.4 c.put_back.ensures.seat in
    let e = ended (Boxed g.T.Turned.stands) v t b.0 b.1 y c.put_back.new.seat.me c.settle.new.seat.me back c.settle.ensures.left in
    let o = over (Boxed g.T.Turned.stands) v t b.0 b.1 y c.settle.new.seat.me c.leave.new.seat.me e c.leave.ensures.left in
    let done = λ (p q : g.row.T.Denot). FnOnceReturnsAtMut g.F.FnOnce c.args.f p c.called-answer.result q in
    unboxed g.T.Turned.stands done c.args.pass.now.view c.leave.new.seat.me.0
    (whole_turn (Boxed g.T.Turned.stands) (λ p q. done p.value q.value) v c.args.pass.now.view t b.0 b.1 x y c.leave.new.seat.me is b.2 b.3 c.called-answer.ensures o)
