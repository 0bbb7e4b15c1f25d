use Rattle.std.proofs.Common.{◌≡◌, ◌∷◌, ◌++◌, ◌+◌, ℕ, [], List, ap, ◌∙◌, subst, sym}
use Rattle.std.proofs.lemmas.Bool.{both_ways}
use Rattle.conference_spec.specs.declared.Entry.TheVariants.{Collect}
use Rattle.conference_spec.specs.Codec.{g726}
use Rattle.conference_spec.specs.Machine.{accepts}
use Rattle.conference_spec.specs.Feed.{Feed, closes, collects}
use Rattle.tick_core.specs.Held.{Sent}
use Rattle.session_account.specs.Encoding.{count_at, runs_in}
use Rattle.session_report.proofs.Counting.{closed-at}
use Rattle.desk_run.proofs.BookFeed.{closed, closed-whole, made-over, handed, handed-sendable}
use Rattle.session_report.proofs.encoding.encode.Goals as goal

pub run_all-requires : goal.run_all-requires
run_all-requires c =
    let r = c.requires in
    let w = closed-whole c.args.book.now c.close.new.self r.0 c.args.tick r.2.2 c.in-Ok.ensures.ok r.2.0 in
    (closed r.2.0.core c.args.tick, w.0, w.1)

pub collect-requires : goal.collect-requires
collect-requires c =
    let r = c.requires in
    let w = closed-whole c.args.book.now c.close.new.self r.0 c.args.tick r.2.2 c.in-Ok.ensures.ok r.2.0 in
    let m = c.in_ok-run_all.ensures.made (closed r.2.0.core c.args.tick) w.0 w.1 in
    record { stands = (m.core, m.stands) }

pub unreachable-requires-in_default : goal.unreachable-requires-in_default
unreachable-requires-in_default c =
    let r = c.requires in
    let w = closed-whole c.args.book.now c.close.new.self r.0 c.args.tick r.2.2 c.in-Ok.ensures.ok r.2.0 in
    let m = c.in_ok-run_all.ensures.made (closed r.2.0.core c.args.tick) w.0 w.1 in
    let o = made-over c.args.book.now c.run_all.new.book r.0 c.args.tick r.2.2 r.2.0 m in
    both_ways (accepts g726 m.core Collect) (c.in_default.ensures.collects m.core m.stands).0 o.2

pub returns-clause-packets : goal.returns-clause-packets
returns-clause-packets c = λ h n s.
    let r = c.requires in
    let p = c.in-Ok-collect.packets in
    (handed c.args.book.now c.close.new.self c.run_all.new.book c.collect.new.self h n c.args.tick p c.push.new.self.items
    c.in-Ok.ensures.ok c.in_ok-run_all.ensures.made c.in-Ok-collect.ensures.collects s
    (c.in_ok-push.ensures.items ∙ ap (λ (ts : List Sent). ts ++ p ∷ []) c.new-ticks.ensures.items)).0

pub returns-clause-stands : goal.returns-clause-stands
returns-clause-stands c = λ h n s.
    let r = c.requires in
    let p = c.in-Ok-collect.packets in
    let e =
    handed c.args.book.now c.close.new.self c.run_all.new.book c.collect.new.self h n c.args.tick p c.push.new.self.items
    c.in-Ok.ensures.ok c.in_ok-run_all.ensures.made c.in-Ok-collect.ensures.collects s
    (c.in_ok-push.ensures.items ∙ ap (λ (ts : List Sent). ts ++ p ∷ []) c.new-ticks.ensures.items) in
    (e.1, e.2)

pub returns-clause-sendable : goal.returns-clause-sendable
returns-clause-sendable c =
    let r = c.requires in
    let p = c.in-Ok-collect.packets in
    handed-sendable c.args.book.now c.close.new.self c.run_all.new.book c.collect.new.self r.0 c.args.tick p c.push.new.self.items
    r.2.2 c.in-Ok.ensures.ok c.in_ok-run_all.ensures.made c.in-Ok-collect.ensures.collects r.2.0
    (c.in_ok-push.ensures.items ∙ ap (λ (ts : List Sent). ts ++ p ∷ []) c.new-ticks.ensures.items)

pub returns-clause-counted : goal.returns-clause-counted
returns-clause-counted c = λ h n s rate.
    let w = closed-whole c.args.book.now c.close.new.self h c.args.tick s.2 c.in-Ok.ensures.ok s.0 in
    let even : collects s.0.core.feed ≡ closes s.0.core.feed = subst (λ (f : Feed). collects f ≡ closes f) (sym s.0.feed) s.2 in
    c.in_ok-run_all.ensures.counted (closed s.0.core c.args.tick) w.0 w.1 rate
    ∙ ap (λ (m : ℕ). count_at rate c.args.runs.now + m)
    (closed-at rate s.0.core c.args.tick (c.holds.ensures s.0.core s.0.stands) even ∙ ap (runs_in rate c.args.tick) s.0.feed)
