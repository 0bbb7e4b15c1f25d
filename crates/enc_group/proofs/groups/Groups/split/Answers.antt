use Rattle.std.proofs.Common.{◌≡◌, ◌+◌, ◌-◌, ◌<◌, ◌∷◌, [], ◌∙◌, not, sym, ap, length, length-append, map, List, find, filter, arith, Some, None}
use Rattle.std.proofs.lemmas.List.Sums.{length-filter}
use Rattle.enc_group.specs.declared.Seat.{Seat}
use Rattle.enc_group.specs.Part.{Part}
use Rattle.enc_group.specs.Groups.{Grouping, sits}
use Rattle.enc_group.specs.Mixes.{is_same, mixes_at}
use Rattle.enc_group.proofs.Passing.{any-some_of}
use Rattle.enc_group.proofs.Likes.{full-there}
use Rattle.enc_group.proofs.Dividing.{order-divided}
use Rattle.enc_group.proofs.Splitting.{split-begins, split-room, split-apart, split-more, split-end, find-goes}
use Rattle.enc_group.proofs.groups.Groups.split.Goals as goal

pub listener_at-requires : goal.listener_at-requires
listener_at-requires c =
    let seats = c.self.inside.seats.items in
    let there = full-there _ (rw (← c.self.view_is) at c.requires.full) in
    let some = any-some_of (sits c.args.key) seats (c.self.invariant.people.peopled c.args.key there) in
    let m = length-filter (sits c.args.key) seats in
    rw c.as_slice.ensures.value (omega (arith, some, m))

pub loop-part-init : goal.loop-part-init
loop-part-init c =
    let seen = ap (λ (g : Grouping). g.seats) c.self.view_is in
    let first = rw seen at (rw c.as_slice.ensures.value at c.listener_at.ensures) in
    rw (c.first-parts.ensures, c.mix-first.ensures.mixed) (split-begins c.args.self.now c.args.key c.args.tick.now c.listener_at.result first)

pub loop-part-preserved : goal.loop-part-preserved
loop-part-preserved c =
    let seen = ap (λ (g : Grouping). g.seats) c.self-in-loop-part.view_is in
    let found = rw seen at (rw c.as_slice-in-loop-part.ensures.value at (sym c.next_mix.ensures ∙ c.in-Some.is)) in
    let e = c.part_off-new_key.ensures in
    rw c.with-parts.ensures (split-more c.args.self.now c.loop-part.self c.args.key c.args.tick.now c.mix-first.result c.loop-part.parts c.loop-part.invariant
    c.part_off-new_key.new.self c.part_off-new_key.result c.in-Some.part (full-there _ c.requires.full) found e.fresh e.sets e.seats e.spare)

pub loop-part-smaller : goal.loop-part-smaller
loop-part-smaller c =
    let seen = ap (λ (g : Grouping). g.seats) c.self-in-loop-part.view_is in
    let found = rw seen at (rw c.as_slice-in-loop-part.ensures.value at (sym c.next_mix.ensures ∙ c.in-Some.is)) in
    let room = split-room c.args.self.now c.loop-part.self c.args.key c.args.tick.now c.mix-first.result c.loop-part.parts c.loop-part.invariant c.in-Some.part found in
    let part : Part = (c.part_off-new_key.result, c.in-Some.part) in
    let long = ap length c.with-parts.ensures in
    let more = length-append c.loop-part.parts (part ∷ []) in
    omega (arith, room, long, more)

pub part_off-new_key-requires-clause-goes : goal.part_off-new_key-requires-clause-goes
part_off-new_key-requires-clause-goes c =
    let seen = ap (λ (g : Grouping). g.seats) c.self-in-loop-part.view_is in
    let found = rw seen at (rw c.as_slice-in-loop-part.ensures.value at (sym c.next_mix.ensures ∙ c.in-Some.is)) in
    find-goes (λ f. not (is_same f c.mix-first.result)) c.args.key c.args.tick.now c.in-Some.part c.loop-part.self.seats found

pub part_off-new_key-requires-clause-differ : goal.part_off-new_key-requires-clause-differ
part_off-new_key-requires-clause-differ c =
    let seen = ap (λ (g : Grouping). g.seats) c.self-in-loop-part.view_is in
    let found = rw seen at (rw c.as_slice-in-loop-part.ensures.value at (sym c.next_mix.ensures ∙ c.in-Some.is)) in
    split-apart c.args.self.now c.loop-part.self c.args.key c.args.tick.now c.mix-first.result c.loop-part.parts c.loop-part.invariant c.in-Some.part found

pub with-parts-requires : goal.with-parts-requires
with-parts-requires c =
    let seen = ap (λ (g : Grouping). g.seats) c.self-in-loop-part.view_is in
    let found = rw seen at (rw c.as_slice-in-loop-part.ensures.value at (sym c.next_mix.ensures ∙ c.in-Some.is)) in
    let room = split-room c.args.self.now c.loop-part.self c.args.key c.args.tick.now c.mix-first.result c.loop-part.parts c.loop-part.invariant c.in-Some.part found in
    omega (arith, room, c.len-talkers.ensures.value, c.len-talkers.ensures.few)

pub returns-clause-parts : goal.returns-clause-parts
returns-clause-parts c =
    let seen = ap (λ (g : Grouping). g.seats) c.self-in-loop-part.view_is in
    let none = rw seen at (rw c.as_slice-in-loop-part.ensures.value at (sym c.next_mix.ensures ∙ c.in_default.is)) in
    split-end c.args.self.now c.loop-part.self c.args.key c.args.tick.now c.mix-first.result c.loop-part.parts c.loop-part.invariant none

pub returns-clause-order : goal.returns-clause-order
returns-clause-order c =
    ap (λ (ss : List Seat). map (λ (s : Seat). s.listener) ss) c.loop-part.invariant.seats
    ∙ order-divided c.args.key c.args.tick.now c.loop-part.parts c.args.self.now.seats
