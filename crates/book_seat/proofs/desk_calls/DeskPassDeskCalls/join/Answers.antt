use Rattle.std.proofs.Common.{false, length, rules, subst, true, ◌==◌, ◌↔◌, ◌≡◌}
use Rattle.book_lock.specs.Known.{Known}
use Rattle.conference_spec.specs.declared.Entry.{Entry}
use Rattle.tick_core.specs.Locking.{Parts}
use Rattle.std.specs.Prelude.{Err}
use Rattle.std.specs.List.{list_any}
use Rattle.conference_spec.specs.declared.Entry.TheVariants.{Join}
use Rattle.conference_spec.specs.Codec.{g726}
use Rattle.conference_spec.specs.Feed.{Feed, joined, listeners}
use Rattle.tick_core.specs.declared.faults.JoinFault.TheVariants as join_fault
use Rattle.book_seat.proofs.Told.{takes-ok, takes-err, at-seen}
use Rattle.book_seat.specs.Steps.{JoinGives}
use Rattle.book_seat.specs.Taken.{Steps, TookTurn}
use Rattle.book_seat.proofs.Feeds.{join-appends}
use Rattle.book_seat.proofs.Turning.{at_mut, may_append, took_turn}
use Rattle.book_seat.proofs.desk_calls.DeskPassDeskCalls.join.Goals as goal

pub turn-requires-clause-appends : goal.turn-requires-clause-appends
turn-requires-clause-appends g c r x y feed state st may done =
    let steps : Steps (JoinGives c.args.spec r) done.shown.now done.left.now = search rules in
    may_append c.self.inside.pass.view (JoinGives c.args.spec r) (join-appends c.self.inside.pass.view c.args.spec r c.self.invariant.1) x y feed state
    (at_mut (JoinGives c.args.spec r) x y done.shown.now done.left.now done.shows done.leaves steps) st

pub returns-clause-turn : goal.returns-clause-turn
returns-clause-turn g c =
    let step = JoinGives c.args.spec c.turn.result in
    subst (λ (p : Known Entry Parts). TookTurn p.view c.turn.new.pass.view step) c.self.view_is
    (took_turn c.self.inside.pass.view c.turn.new.pass.view step _ (join-appends c.self.inside.pass.view c.args.spec c.turn.result c.self.invariant.1)
    (λ x y done.
    let steps : Steps step done.shown.now done.left.now = search rules in
    at_mut step x y done.shown.now done.left.now done.shows done.leaves steps)
    c.turn.ensures.turn)

pub returns-clause-ok : goal.returns-clause-ok
returns-clause-ok g c =
    let t = returns-clause-turn g c in
    takes-ok c.args.self.now.view _ (Join c.args.spec) c.turn.result (JoinGives c.args.spec c.turn.result) (subst (λ (p : Known Entry Parts). p.view.desk ≡ true) c.self.view_is c.self.invariant.1) t t.did.takes

pub returns-clause-err : goal.returns-clause-err
returns-clause-err g c =
    let t = returns-clause-turn g c in
    takes-err c.args.self.now.view _ (Join c.args.spec) c.turn.result (JoinGives c.args.spec c.turn.result) (subst (λ (p : Known Entry Parts). p.view.desk ≡ true) c.self.view_is c.self.invariant.1) t t.did.takes

pub returns-clause-used : goal.returns-clause-used
returns-clause-used g c h s =
    let t = returns-clause-turn g c in
    at-seen c.args.self.now.view _ (JoinGives c.args.spec c.turn.result) (λ (h : Feed). (c.turn.result ≡ Err join_fault.Used) ↔ (list_any (λ m. m == c.args.spec.member) (joined h) ≡ true))
    (subst (λ (p : Known Entry Parts). p.view.desk ≡ true) c.self.view_is c.self.invariant.1) t t.did.used h s

pub returns-clause-full : goal.returns-clause-full
returns-clause-full g c h s =
    let t = returns-clause-turn g c in
    at-seen c.args.self.now.view _ (JoinGives c.args.spec c.turn.result) (λ (h : Feed). (c.turn.result ≡ Err join_fault.Full) ↔ ((list_any (λ m. m == c.args.spec.member) (joined h) ≡ false) × (length (listeners g726 h) ≡ 1024)))
    (subst (λ (p : Known Entry Parts). p.view.desk ≡ true) c.self.view_is c.self.invariant.1) t t.did.full h s
