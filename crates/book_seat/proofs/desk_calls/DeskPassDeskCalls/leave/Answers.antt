use Rattle.std.proofs.Common.{false, rules, subst, true, ◌==◌, ◌↔◌, ◌≡◌}
use Rattle.book_lock.specs.Known.{Known}
use Rattle.conference_spec.specs.declared.Entry.{Entry}
use Rattle.tick_core.specs.Locking.{Parts}
use Rattle.std.specs.Prelude.{IsErr}
use Rattle.std.specs.List.{list_any}
use Rattle.conference_spec.specs.declared.Entry.TheVariants.{Leave}
use Rattle.conference_spec.specs.Codec.{g726}
use Rattle.conference_spec.specs.Feed.{Feed, listeners}
use Rattle.book_seat.proofs.Told.{takes-ok, takes-err, at-seen}
use Rattle.book_seat.specs.Steps.{LeaveGives}
use Rattle.book_seat.specs.Taken.{Steps, TookTurn}
use Rattle.book_seat.proofs.Feeds.{leave-appends}
use Rattle.book_seat.proofs.Turning.{at_mut, may_append, took_turn}
use Rattle.book_seat.proofs.desk_calls.DeskPassDeskCalls.leave.Goals as goal

pub turn-requires-clause-appends : goal.turn-requires-clause-appends
turn-requires-clause-appends g c r x y feed state st may done =
    let steps : Steps (LeaveGives c.args.member r) done.shown.now done.left.now = search rules in
    may_append c.self.inside.pass.view (LeaveGives c.args.member r) (leave-appends c.self.inside.pass.view c.args.member r c.self.invariant.1) x y feed state
    (at_mut (LeaveGives c.args.member r) x y done.shown.now done.left.now done.shows done.leaves steps) st

pub returns-clause-turn : goal.returns-clause-turn
returns-clause-turn g c =
    let step = LeaveGives c.args.member c.turn.result in
    subst (λ (p : Known Entry Parts). TookTurn p.view c.turn.new.pass.view step) c.self.view_is
    (took_turn c.self.inside.pass.view c.turn.new.pass.view step _ (leave-appends c.self.inside.pass.view c.args.member c.turn.result c.self.invariant.1)
    (λ x y done.
    let steps : Steps step done.shown.now done.left.now = search rules in
    at_mut step x y done.shown.now done.left.now done.shows done.leaves steps)
    c.turn.ensures.turn)

pub returns-clause-ok : goal.returns-clause-ok
returns-clause-ok g c =
    let t = returns-clause-turn g c in
    takes-ok c.args.self.now.view _ (Leave c.args.member) c.turn.result (LeaveGives c.args.member c.turn.result) (subst (λ (p : Known Entry Parts). p.view.desk ≡ true) c.self.view_is c.self.invariant.1) t t.did.takes

pub returns-clause-err : goal.returns-clause-err
returns-clause-err g c =
    let t = returns-clause-turn g c in
    takes-err c.args.self.now.view _ (Leave c.args.member) c.turn.result (LeaveGives c.args.member c.turn.result) (subst (λ (p : Known Entry Parts). p.view.desk ≡ true) c.self.view_is c.self.invariant.1) t t.did.takes

pub returns-clause-absent : goal.returns-clause-absent
returns-clause-absent g c h s =
    let t = returns-clause-turn g c in
    at-seen c.args.self.now.view _ (LeaveGives c.args.member c.turn.result) (λ (h : Feed). IsErr c.turn.result ↔ (list_any (λ l. l.spec.member == c.args.member) (listeners g726 h) ≡ false))
    (subst (λ (p : Known Entry Parts). p.view.desk ≡ true) c.self.view_is c.self.invariant.1) t t.did.absent h s
