use Rattle.std.proofs.Common.{rules, subst, true, ◌+◌, ◌<◌, ◌↔◌, ◌≡◌}
use Rattle.book_lock.specs.Known.{Known}
use Rattle.conference_spec.specs.declared.Entry.{Entry}
use Rattle.tick_core.specs.Locking.{Parts}
use Rattle.std.specs.Prelude.{Err}
use Rattle.conference_spec.specs.declared.Entry.TheVariants.{Close}
use Rattle.conference_spec.specs.Feed.{Feed, closes, collects, kept}
use Rattle.tick_core.specs.declared.faults.CloseFault.TheVariants as close_fault
use Rattle.book_seat.proofs.Told.{takes-ok, takes-err, at-seen}
use Rattle.book_seat.specs.Steps.{CloseGives}
use Rattle.book_seat.specs.Taken.{Steps, TookTurn}
use Rattle.book_seat.proofs.Feeds.{close-appends}
use Rattle.book_seat.proofs.Turning.{at_mut, may_append, took_turn}
use Rattle.book_seat.proofs.desk_calls.DeskPassDeskCalls.close.Goals as goal

pub turn-requires-clause-appends : goal.turn-requires-clause-appends
turn-requires-clause-appends g c r x y feed state st may done =
    let steps : Steps (CloseGives c.args.tick r) done.shown.now done.left.now = search rules in
    may_append c.self.inside.pass.view (CloseGives c.args.tick r) (close-appends c.self.inside.pass.view c.args.tick r c.self.invariant.1) x y feed state
    (at_mut (CloseGives c.args.tick r) x y done.shown.now done.left.now done.shows done.leaves steps) st

pub returns-clause-turn : goal.returns-clause-turn
returns-clause-turn g c =
    let step = CloseGives c.args.tick c.turn.result in
    subst (λ (p : Known Entry Parts). TookTurn p.view c.turn.new.pass.view step) c.self.view_is
    (took_turn c.self.inside.pass.view c.turn.new.pass.view step _ (close-appends c.self.inside.pass.view c.args.tick c.turn.result c.self.invariant.1)
    (λ x y done.
    let steps : Steps step done.shown.now done.left.now = search rules in
    at_mut step x y done.shown.now done.left.now done.shows done.leaves steps)
    c.turn.ensures.turn)

pub returns-clause-ok : goal.returns-clause-ok
returns-clause-ok g c =
    let t = returns-clause-turn g c in
    takes-ok c.args.self.now.view _ (Close c.args.tick) c.turn.result (CloseGives c.args.tick c.turn.result) (subst (λ (p : Known Entry Parts). p.view.desk ≡ true) c.self.view_is c.self.invariant.1) t t.did.takes

pub returns-clause-err : goal.returns-clause-err
returns-clause-err g c =
    let t = returns-clause-turn g c in
    takes-err c.args.self.now.view _ (Close c.args.tick) c.turn.result (CloseGives c.args.tick c.turn.result) (subst (λ (p : Known Entry Parts). p.view.desk ≡ true) c.self.view_is c.self.invariant.1) t t.did.takes

pub returns-clause-ticks_over : goal.returns-clause-ticks_over
returns-clause-ticks_over g c h s =
    let t = returns-clause-turn g c in
    at-seen c.args.self.now.view _ (CloseGives c.args.tick c.turn.result) (λ (h : Feed). (c.turn.result ≡ Err close_fault.TicksOver) ↔ (closes h ≡ 4320000))
    (subst (λ (p : Known Entry Parts). p.view.desk ≡ true) c.self.view_is c.self.invariant.1) t t.did.ticks_over h s

pub returns-clause-backlog : goal.returns-clause-backlog
returns-clause-backlog g c h s =
    let t = returns-clause-turn g c in
    at-seen c.args.self.now.view _ (CloseGives c.args.tick c.turn.result) (λ (h : Feed). (c.turn.result ≡ Err close_fault.Backlog) ↔ ((closes h < 4320000) × (kept h < 18000) × (closes h ≡ collects h + 64)))
    (subst (λ (p : Known Entry Parts). p.view.desk ≡ true) c.self.view_is c.self.invariant.1) t t.did.backlog h s

pub returns-clause-long : goal.returns-clause-long
returns-clause-long g c h s =
    let t = returns-clause-turn g c in
    at-seen c.args.self.now.view _ (CloseGives c.args.tick c.turn.result) (λ (h : Feed). (c.turn.result ≡ Err close_fault.Long) ↔ ((closes h < 4320000) × (kept h ≡ 18000)))
    (subst (λ (p : Known Entry Parts). p.view.desk ≡ true) c.self.view_is c.self.invariant.1) t t.did.long h s
