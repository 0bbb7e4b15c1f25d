use Rattle.std.proofs.Common.{◌≡◌, ◌+◌, ◌∷◌, length, ap, sym, arith, ◌∙◌, Err}
use Rattle.conference_spec.specs.declared.Entry.TheVariants.{Close, Collect}
use Rattle.desk_shared.proofs.Handing.{none-ready, same-closes, same-kept, closes-on, from-collect, ready-sendable}
use Rattle.desk_shared.proofs.waiting.WaitingConference.encode.Goals as goal

pub close-requires : goal.close-requires
close-requires g c =
    let h = c.requires.0 in
    let n = c.requires.1 in
    let s = c.requires.2 in
    let placed = c.in_ok-make_place.ensures.taken h n (none-ready _ h n c.new-ready.result.items c.new-ready.ensures.items s.0) in
    let o = placed.0.out in
    record { before_end = (o.own, o.stands, o.open') }

pub unreachable-requires : goal.unreachable-requires
unreachable-requires g c =
    let h = c.requires.0 in
    let n = c.requires.1 in
    let s = c.requires.2 in
    let few = c.requires.4 in
    let placed = c.in_ok-make_place.ensures.taken h n (none-ready _ h n c.new-ready.result.items c.new-ready.ensures.items s.0) in
    let o = placed.0.out in
    let over = (c.close.ensures.ticks_over o.own o.stands).0 (c.in-Err-TicksOver.is ∙ ap (λ x. Err x) c.in-Err-TicksOver.field-0-is) in
    let same = same-closes o.own h o.same in
    omega arith

pub unreachable-requires-in-Err-Long : goal.unreachable-requires-in-Err-Long
unreachable-requires-in-Err-Long g c =
    let h = c.requires.0 in
    let n = c.requires.1 in
    let s = c.requires.2 in
    let few = c.requires.5 in
    let placed = c.in_ok-make_place.ensures.taken h n (none-ready _ h n c.new-ready.result.items c.new-ready.ensures.items s.0) in
    let o = placed.0.out in
    let over = (c.close.ensures.long o.own o.stands).0 (c.in-Err-Long.is ∙ ap (λ x. Err x) c.in-Err-Long.field-0-is) in
    let long = over.1 in
    let same = same-kept o.own h o.same in
    omega arith

pub unreachable-requires-in-Err-Backlog : goal.unreachable-requires-in-Err-Backlog
unreachable-requires-in-Err-Backlog g c =
    let h = c.requires.0 in
    let n = c.requires.1 in
    let s = c.requires.2 in
    let placed = c.in_ok-make_place.ensures.taken h n (none-ready _ h n c.new-ready.result.items c.new-ready.ensures.items s.0) in
    let o = placed.0.out in
    let over = (c.close.ensures.backlog o.own o.stands).0 (c.in-Err-Backlog.is ∙ ap (λ x. Err x) c.in-Err-Backlog.field-0-is) in
    let same = same-closes o.own h o.same in
    let room = placed.1 in
    let count = o.count in
    let full = over.2 in
    omega arith

pub take_ready-requires : goal.take_ready-requires
take_ready-requires g c =
    let h = c.requires.0 in
    let n = c.requires.1 in
    let s = c.requires.2 in
    let placed = c.in_ok-make_place.ensures.taken h n (none-ready _ h n c.new-ready.result.items c.new-ready.ensures.items s.0) in
    record { known = (Collect ∷ Close c.args.tick ∷ h, n, closes-on _ _ h n c.args.tick c.make_place.new.ready.items placed.1 c.in-Ok.ensures.ok placed.0) }

pub returns-clause-packets : goal.returns-clause-packets
returns-clause-packets g c = λ h n s.
    let placed = c.in_ok-make_place.ensures.taken h n (none-ready _ h n c.new-ready.result.items c.new-ready.ensures.items s.0) in
    let all = c.in_ok-take_ready.ensures.taken (Collect ∷ Close c.args.tick ∷ h) n
    (closes-on _ _ h n c.args.tick c.make_place.new.ready.items placed.1 c.in-Ok.ensures.ok placed.0) in
    all.packets ∙ sym (from-collect n (length c.take_ready.new.ready.items) (Close c.args.tick ∷ h))

pub returns-clause-stands : goal.returns-clause-stands
returns-clause-stands g c = λ h n s.
    let placed = c.in_ok-make_place.ensures.taken h n (none-ready _ h n c.new-ready.result.items c.new-ready.ensures.items s.0) in
    let all = c.in_ok-take_ready.ensures.taken (Collect ∷ Close c.args.tick ∷ h) n
    (closes-on _ _ h n c.args.tick c.make_place.new.ready.items placed.1 c.in-Ok.ensures.ok placed.0) in
    (all.out.behind, (all.out, c.make_place.ensures.ready))

pub returns-clause-sendable : goal.returns-clause-sendable
returns-clause-sendable g c =
    let h = c.requires.0 in
    let n = c.requires.1 in
    let s = c.requires.2 in
    let placed = c.in_ok-make_place.ensures.taken h n (none-ready _ h n c.new-ready.result.items c.new-ready.ensures.items s.0) in
    let all = c.in_ok-take_ready.ensures.taken (Collect ∷ Close c.args.tick ∷ h) n
    (closes-on _ _ h n c.args.tick c.make_place.new.ready.items placed.1 c.in-Ok.ensures.ok placed.0) in
    ready-sendable _ (Collect ∷ Close c.args.tick ∷ h) n c.take_ready.new.ready.items all
