use Rattle.std.proofs.Common.{◌∷◌, ◌++◌, [], List, ap, ◌∙◌}
use Rattle.std.proofs.lemmas.Bool.{both_ways}
use Rattle.conference_spec.specs.declared.Entry.TheVariants.{Collect}
use Rattle.conference_spec.specs.Codec.{g726}
use Rattle.conference_spec.specs.Machine.{accepts}
use Rattle.tick_core.specs.Held.{Sent}
use Rattle.desk_run.proofs.BookFeed.{closed, closed-whole, made-over, handed, handed-sendable}
use Rattle.desk_run.proofs.book_side.BookConference.encode.Goals as goal

pub run_all-requires : goal.run_all-requires
run_all-requires c =
    let r = c.requires in
    let w = closed-whole c.args.self.now c.close.new.self r.0 c.args.tick r.2.2 c.in-Ok.ensures.ok r.2.0 in
    (closed r.2.0.core c.args.tick, w.0, w.1)

pub collect-requires : goal.collect-requires
collect-requires c =
    let r = c.requires in
    let w = closed-whole c.args.self.now c.close.new.self r.0 c.args.tick r.2.2 c.in-Ok.ensures.ok r.2.0 in
    let m = c.run_all.ensures (closed r.2.0.core c.args.tick) w.0 w.1 in
    record { stands = (m.core, m.stands) }

pub unreachable-requires-in_default : goal.unreachable-requires-in_default
unreachable-requires-in_default c =
    let r = c.requires in
    let w = closed-whole c.args.self.now c.close.new.self r.0 c.args.tick r.2.2 c.in-Ok.ensures.ok r.2.0 in
    let m = c.run_all.ensures (closed r.2.0.core c.args.tick) w.0 w.1 in
    let o = made-over c.args.self.now c.run_all.new.book r.0 c.args.tick r.2.2 r.2.0 m in
    both_ways (accepts g726 m.core Collect) (c.in_default.ensures.collects m.core m.stands).0 o.2

pub returns-clause-packets : goal.returns-clause-packets
returns-clause-packets c = λ h n s.
    let r = c.requires in
    let p = c.in-Ok-collect.packets in
    (handed c.args.self.now c.close.new.self c.run_all.new.book c.collect.new.self h n c.args.tick p c.push.new.self.items
    c.in-Ok.ensures.ok c.run_all.ensures c.in-Ok-collect.ensures.collects s
    (c.in_ok-push.ensures.items ∙ ap (λ (ts : List Sent). ts ++ p ∷ []) c.new-ticks.ensures.items)).0

pub returns-clause-stands : goal.returns-clause-stands
returns-clause-stands c = λ h n s.
    let r = c.requires in
    let p = c.in-Ok-collect.packets in
    let e =
    handed c.args.self.now c.close.new.self c.run_all.new.book c.collect.new.self h n c.args.tick p c.push.new.self.items
    c.in-Ok.ensures.ok c.run_all.ensures c.in-Ok-collect.ensures.collects s
    (c.in_ok-push.ensures.items ∙ ap (λ (ts : List Sent). ts ++ p ∷ []) c.new-ticks.ensures.items) in
    (e.1, e.2)

pub returns-clause-sendable : goal.returns-clause-sendable
returns-clause-sendable c =
    let r = c.requires in
    let p = c.in-Ok-collect.packets in
    handed-sendable c.args.self.now c.close.new.self c.run_all.new.book c.collect.new.self r.0 c.args.tick p c.push.new.self.items
    r.2.2 c.in-Ok.ensures.ok c.run_all.ensures c.in-Ok-collect.ensures.collects r.2.0
    (c.in_ok-push.ensures.items ∙ ap (λ (ts : List Sent). ts ++ p ∷ []) c.new-ticks.ensures.items)
