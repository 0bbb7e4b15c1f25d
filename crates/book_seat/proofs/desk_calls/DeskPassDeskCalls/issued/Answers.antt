use Rattle.std.proofs.Common.{rules, subst, true, ◌≡◌}
use Rattle.book_lock.specs.Known.{Known}
use Rattle.conference_spec.specs.declared.Entry.{Entry}
use Rattle.tick_core.specs.Locking.{Parts}
use Rattle.book_seat.proofs.Told.{issued-due, read-same}
use Rattle.book_seat.specs.Steps.{IssuedGives}
use Rattle.book_seat.specs.Taken.{Steps, TookTurn}
use Rattle.book_seat.proofs.Feeds.{issued-appends}
use Rattle.book_seat.proofs.Turning.{at_mut, may_append, took_turn}
use Rattle.book_seat.proofs.desk_calls.DeskPassDeskCalls.issued.Goals as goal

pub turn-requires-clause-appends : goal.turn-requires-clause-appends
turn-requires-clause-appends g c r x y feed state st may done =
    let steps : Steps (IssuedGives r) done.shown.now done.left.now = search rules in
    may_append c.self.inside.pass.view (IssuedGives r) (issued-appends c.self.inside.pass.view r) x y feed state
    (at_mut (IssuedGives r) x y done.shown.now done.left.now done.shows done.leaves steps) st

pub returns-clause-turn : goal.returns-clause-turn
returns-clause-turn g c =
    let step = IssuedGives c.turn.result in
    subst (λ (p : Known Entry Parts). TookTurn p.view c.turn.new.pass.view step) c.self.view_is
    (took_turn c.self.inside.pass.view c.turn.new.pass.view step _ (issued-appends c.self.inside.pass.view c.turn.result)
    (λ x y done.
    let steps : Steps step done.shown.now done.left.now = search rules in
    at_mut step x y done.shown.now done.left.now done.shows done.leaves steps)
    c.turn.ensures.turn)

pub returns-clause-value : goal.returns-clause-value
returns-clause-value g c = issued-due c.args.self.now.view _ c.turn.result (subst (λ (p : Known Entry Parts). p.view.desk ≡ true) c.self.view_is c.self.invariant.1) (returns-clause-turn g c)

pub returns-clause-stands : goal.returns-clause-stands
returns-clause-stands g c =
    let t = returns-clause-turn g c in
    read-same c.args.self.now.view _ (IssuedGives c.turn.result) (subst (λ (p : Known Entry Parts). p.view.desk ≡ true) c.self.view_is c.self.invariant.1) t t.did.1
