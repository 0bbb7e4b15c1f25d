use Rattle.std.proofs.Common.{rules, subst, true, ◌≡◌}
use Rattle.book_lock.specs.Known.{Known}
use Rattle.conference_spec.specs.declared.Entry.{Entry}
use Rattle.tick_core.specs.Locking.{Parts}
use Rattle.book_seat.proofs.Told.{collect-tick, collect-packets, collect-ok, collect-err}
use Rattle.book_seat.specs.Steps.{CollectGives}
use Rattle.book_seat.specs.Taken.{Steps, TookTurn}
use Rattle.book_seat.proofs.Feeds.{collect-appends}
use Rattle.book_seat.proofs.Turning.{at_mut, may_append, took_turn}
use Rattle.book_seat.proofs.desk_calls.DeskPassDeskCalls.collect.Goals as goal

pub turn-requires-clause-appends : goal.turn-requires-clause-appends
turn-requires-clause-appends g c r x y feed state st may done =
    let steps : Steps (CollectGives r) done.shown.now done.left.now = search rules in
    may_append c.self.inside.pass.view (CollectGives r) (collect-appends c.self.inside.pass.view r c.self.invariant.1) x y feed state
    (at_mut (CollectGives r) x y done.shown.now done.left.now done.shows done.leaves steps) st

pub returns-clause-turn : goal.returns-clause-turn
returns-clause-turn g c =
    let step = CollectGives c.turn.result in
    subst (λ (p : Known Entry Parts). TookTurn p.view c.turn.new.pass.view step) c.self.view_is
    (took_turn c.self.inside.pass.view c.turn.new.pass.view step _ (collect-appends c.self.inside.pass.view c.turn.result c.self.invariant.1)
    (λ x y done.
    let steps : Steps step done.shown.now done.left.now = search rules in
    at_mut step x y done.shown.now done.left.now done.shows done.leaves steps)
    c.turn.ensures.turn)

pub returns-clause-tick : goal.returns-clause-tick
returns-clause-tick g c = collect-tick c.args.self.now.view _ c.turn.result (subst (λ (p : Known Entry Parts). p.view.desk ≡ true) c.self.view_is c.self.invariant.1) (returns-clause-turn g c)

pub returns-clause-packets : goal.returns-clause-packets
returns-clause-packets g c = collect-packets c.args.self.now.view _ c.turn.result (subst (λ (p : Known Entry Parts). p.view.desk ≡ true) c.self.view_is c.self.invariant.1) (returns-clause-turn g c)

pub returns-clause-ok : goal.returns-clause-ok
returns-clause-ok g c = collect-ok c.args.self.now.view _ c.turn.result (subst (λ (p : Known Entry Parts). p.view.desk ≡ true) c.self.view_is c.self.invariant.1) (returns-clause-turn g c)

pub returns-clause-err : goal.returns-clause-err
returns-clause-err g c = collect-err c.args.self.now.view _ c.turn.result (subst (λ (p : Known Entry Parts). p.view.desk ≡ true) c.self.view_is c.self.invariant.1) (returns-clause-turn g c)
