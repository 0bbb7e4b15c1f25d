use Rattle.std.proofs.Common.{ℕ, ◌<◌, List, length, refl, sym, ap, subst, arith}
use Rattle.std.specs.List.{All}
use Rattle.conference_spec.specs.declared.Entry.TheVariants.{Close}
use Rattle.book_lists.specs.declared.seats.Rest.{Rest}
use Rattle.tick_core.specs.Steps.{OpensTick}
use Rattle.tick_core.proofs.Bounds.{stands-bounded, few-waiting}
use Rattle.tick_core.proofs.Follows.{closed-is, collected-is, kept-is}
use Rattle.tick_core.proofs.Feeds.{any-err}
use Rattle.tick_core.proofs.Keeping.{not-ended}
use Rattle.tick_core.proofs.Opening.{may-close, close-stands}
use Rattle.tick_core.proofs.Twins.{before-on, takes-all, keeps-one, closed-all, collected-all, since-all}
use Rattle.tick_core.proofs.book.Book.close.Goals as goal

pub returns-then-closed-ge-TICKS_MOST-clause-ticks_over : goal.returns-then-closed-ge-TICKS_MOST-clause-ticks_over
returns-then-closed-ge-TICKS_MOST-clause-ticks_over c core s =
    let small = stands-bounded c.args.self.now s.on s.is in
    let le = c.if-closed-ge-TICKS_MOST.true in
    let e = c.closed-closed.ensures in
    let f = closed-all c.args.self.now core s in
    let most = small.feed.closed in
    ((λ q. omega arith), (λ q. refl))

pub returns-then-kept-ge-KEPT_MOST-clause-long : goal.returns-then-kept-ge-KEPT_MOST-clause-long
returns-then-kept-ge-KEPT_MOST-clause-long c core s =
    let small = stands-bounded c.args.self.now s.on s.is in
    let lt = c.if-closed-ge-TICKS_MOST.false in
    let le = c.if-kept-ge-KEPT_MOST.true in
    let e = c.closed-closed.ensures in
    let f = closed-all c.args.self.now core s in
    let g = c.kept.ensures in
    let h = since-all c.args.self.now core s in
    let most = small.feed.since in
    ((λ q. (omega arith, omega arith)), (λ q. refl))

pub overflow_sub-closed : goal.overflow_sub-closed
overflow_sub-closed c =
    let b = before-on c.args.self.now c.requires.before_end in
    let small = stands-bounded c.args.self.now b.0 b.1 in
    let le = small.feed.collected in
    let e = c.closed-closed.ensures in
    let f = c.collected.ensures in
    omega arith

pub returns-then-closed-collected-ge-BACKLOG_MOST-clause-backlog : goal.returns-then-closed-collected-ge-BACKLOG_MOST-clause-backlog
returns-then-closed-collected-ge-BACKLOG_MOST-clause-backlog c core s =
    let small = stands-bounded c.args.self.now s.on s.is in
    let lt = c.if-closed-ge-TICKS_MOST.false in
    let few = c.if-kept-ge-KEPT_MOST.false in
    let le = c.if-closed-collected-ge-BACKLOG_MOST.true in
    let e = c.closed-closed.ensures in
    let f = c.collected.ensures in
    let d = c.kept.ensures in
    let g = closed-all c.args.self.now core s in
    let h = collected-all c.args.self.now core s in
    let k = since-all c.args.self.now core s in
    let most = small.feed.backlog in
    let less = small.feed.collected in
    ((λ q. (omega arith, omega arith, omega arith)), (λ q. refl))

pub take_room-requires-clause-before_end : goal.take_room-requires-clause-before_end
take_room-requires-clause-before_end c = before-on c.args.self.now c.requires.before_end

pub take_room-requires-clause-seats : goal.take_room-requires-clause-seats
take_room-requires-clause-seats c = let b = before-on c.args.self.now c.requires.before_end in (stands-bounded c.args.self.now b.0 b.1).seats

pub take_room-requires-clause-listeners : goal.take_room-requires-clause-listeners
take_room-requires-clause-listeners c = let b = before-on c.args.self.now c.requires.before_end in (stands-bounded c.args.self.now b.0 b.1).present

pub open_tick-requires-clause-room : goal.open_tick-requires-clause-room
open_tick-requires-clause-room c =
    let b = c.args.self.now in
    let before = before-on b c.requires.before_end in
    let st = before.1 in
    let few = few-waiting before.0 b.open_ticks.items b.present.items b.queue.tickets b.queue.issued st.kept st.carries st.roomy.fit in
    let ready = c.in_ok-blank.ensures.ok in
    let e = ap length ready.present in
    let q = ap length ready.queue.0 in
    let t = ready.tickets in
    omega arith

pub open_tick-requires-clause-numbers : goal.open_tick-requires-clause-numbers
open_tick-requires-clause-numbers c =
    let b = before-on c.args.self.now c.requires.before_end in
    let small = stands-bounded c.args.self.now b.0 b.1 in
    let ready = c.in_ok-blank.ensures.ok in
    let n = small.issued in
    let p = small.present in
    let e = ap length ready.present in
    let q = ready.queue.1 in
    omega arith

pub open_tick-requires-clause-heard : goal.open_tick-requires-clause-heard
open_tick-requires-clause-heard c =
    let b = before-on c.args.self.now c.requires.before_end in
    let small = stands-bounded c.args.self.now b.0 b.1 in
    subst (λ (rs : List Rest). All (λ (r : Rest). r.heard < 9223372036854775808) rs) (sym c.in_ok-blank.ensures.ok.present) small.heard

pub returns-clause-ok : goal.returns-clause-ok
returns-clause-ok c =
    let b = c.args.self.now in
    let before = before-on b c.requires.before_end in
    let lt = c.if-closed-ge-TICKS_MOST.false in
    let few = c.if-kept-ge-KEPT_MOST.false in
    let le = c.if-closed-collected-ge-BACKLOG_MOST.false in
    let e = c.closed-closed.ensures in
    let f = c.collected.ensures in
    let d = c.kept.ensures in
    let opened = subst (λ (n : ℕ). OpensTick n c.args.tick c.take_room.new.self c.open_tick.new.self) e c.open_tick.ensures.opened in
    takes-all b _ (Close c.args.tick) (λ core st.
    let g = closed-is st.feed in
    let h = collected-is st.feed in
    let k = kept-is st.feed in
    let may = may-close core c.args.tick (omega arith) (omega arith) (omega arith) (not-ended b core before st) in
    (may, close-stands b c.take_room.new.self c.open_tick.new.self core c.args.tick c.in_ok-blank.blank st may c.in_ok-blank.ensures.ok opened c.open_tick.ensures.log))

pub returns-then-closed-ge-TICKS_MOST-clause-long : goal.returns-then-closed-ge-TICKS_MOST-clause-long
returns-then-closed-ge-TICKS_MOST-clause-long c core s =
    let le = c.if-closed-ge-TICKS_MOST.true in
    let e = c.closed-closed.ensures in
    let g = closed-all c.args.self.now core s in
    ((λ q. absurd (cc)), (λ p. let a = p.0 in absurd (omega arith)))

pub returns-then-closed-ge-TICKS_MOST-clause-backlog : goal.returns-then-closed-ge-TICKS_MOST-clause-backlog
returns-then-closed-ge-TICKS_MOST-clause-backlog c core s =
    let le = c.if-closed-ge-TICKS_MOST.true in
    let e = c.closed-closed.ensures in
    let g = closed-all c.args.self.now core s in
    ((λ q. absurd (cc)), (λ p. let a = p.0 in absurd (omega arith)))

pub returns-then-kept-ge-KEPT_MOST-clause-ticks_over : goal.returns-then-kept-ge-KEPT_MOST-clause-ticks_over
returns-then-kept-ge-KEPT_MOST-clause-ticks_over c core s =
    let lt = c.if-closed-ge-TICKS_MOST.false in
    let e = c.closed-closed.ensures in
    let g = closed-all c.args.self.now core s in
    ((λ q. absurd (cc)), (λ p. absurd (omega arith)))

pub returns-then-kept-ge-KEPT_MOST-clause-backlog : goal.returns-then-kept-ge-KEPT_MOST-clause-backlog
returns-then-kept-ge-KEPT_MOST-clause-backlog c core s =
    let late = c.if-kept-ge-KEPT_MOST.true in
    let d = c.kept.ensures in
    let k = since-all c.args.self.now core s in
    ((λ q. absurd (cc)), (λ p. let a = p.1 in absurd (omega arith)))

pub returns-then-closed-collected-ge-BACKLOG_MOST-clause-ticks_over : goal.returns-then-closed-collected-ge-BACKLOG_MOST-clause-ticks_over
returns-then-closed-collected-ge-BACKLOG_MOST-clause-ticks_over c core s =
    let lt = c.if-closed-ge-TICKS_MOST.false in
    let e = c.closed-closed.ensures in
    let g = closed-all c.args.self.now core s in
    ((λ q. absurd (cc)), (λ p. absurd (omega arith)))

pub returns-then-closed-collected-ge-BACKLOG_MOST-clause-long : goal.returns-then-closed-collected-ge-BACKLOG_MOST-clause-long
returns-then-closed-collected-ge-BACKLOG_MOST-clause-long c core s =
    let few = c.if-kept-ge-KEPT_MOST.false in
    let d = c.kept.ensures in
    let k = since-all c.args.self.now core s in
    ((λ q. absurd (cc)), (λ p. let a = p.1 in absurd (omega arith)))

pub returns-in_err-blank-clause-ticks_over : goal.returns-in_err-blank-clause-ticks_over
returns-in_err-blank-clause-ticks_over c core s =
    let lt = c.if-closed-ge-TICKS_MOST.false in
    let e = c.closed-closed.ensures in
    let g = closed-all c.args.self.now core s in
    ((λ q. let r = rw q at c.from_residual.ensures.1 in absurd (cc r)), (λ p. absurd (omega arith)))

pub returns-in_err-blank-clause-long : goal.returns-in_err-blank-clause-long
returns-in_err-blank-clause-long c core s =
    let few = c.if-kept-ge-KEPT_MOST.false in
    let d = c.kept.ensures in
    let k = since-all c.args.self.now core s in
    ((λ q. let r = rw q at c.from_residual.ensures.1 in absurd (cc r)), (λ p. let a = p.1 in absurd (omega arith)))

pub returns-in_err-blank-clause-backlog : goal.returns-in_err-blank-clause-backlog
returns-in_err-blank-clause-backlog c core s =
    let free = c.if-closed-collected-ge-BACKLOG_MOST.false in
    let e = c.closed-closed.ensures in
    let f = c.collected.ensures in
    let g = closed-all c.args.self.now core s in
    let h = collected-all c.args.self.now core s in
    ((λ q. let r = rw q at c.from_residual.ensures.1 in absurd (cc r)), (λ p. let a = p.2 in absurd (omega arith)))

pub returns-clause-ticks_over : goal.returns-clause-ticks_over
returns-clause-ticks_over c core s =
    let lt = c.if-closed-ge-TICKS_MOST.false in
    let e = c.closed-closed.ensures in
    let g = closed-all c.args.self.now core s in
    ((λ q. absurd (cc)), (λ p. absurd (omega arith)))

pub returns-clause-long : goal.returns-clause-long
returns-clause-long c core s =
    let few = c.if-kept-ge-KEPT_MOST.false in
    let d = c.kept.ensures in
    let k = since-all c.args.self.now core s in
    ((λ q. absurd (cc)), (λ p. let a = p.1 in absurd (omega arith)))

pub returns-clause-backlog : goal.returns-clause-backlog
returns-clause-backlog c core s =
    let free = c.if-closed-collected-ge-BACKLOG_MOST.false in
    let e = c.closed-closed.ensures in
    let f = c.collected.ensures in
    let g = closed-all c.args.self.now core s in
    let h = collected-all c.args.self.now core s in
    ((λ q. absurd (cc)), (λ p. let a = p.2 in absurd (omega arith)))

pub returns-in_err-blank-clause-err : goal.returns-in_err-blank-clause-err
returns-in_err-blank-clause-err c = any-err c.from_residual.result (keeps-one c.args.self.now c.take_room.new.self c.in_err-blank.ensures.err)
