use Rattle.std.proofs.Common.{◌≡◌, arith, sym, ap, ◌∙◌, map, List}
use Rattle.std.proofs.lemmas.List.{length-map}
use Rattle.enc_group.specs.Groups.{moved, Grouping, order}
use Rattle.enc_group.specs.declared.Seat.{Seat}
use Rattle.enc_group.proofs.People.{people-merged, order-moved}
use Rattle.enc_group.proofs.Likes.{like-into}
use Rattle.enc_group.proofs.groups.Groups.merge.Goals as goal

pub invariant_of-self : goal.invariant_of-self
invariant_of-self c =
    let was = c.self.invariant in
    let e = c.move_all.ensures.items in
    let n = length-map c.self.inside.seats.items (moved c.args.from c.args.into) in
    let len = c.move_all.ensures.len in
    let cap = c.move_all.ensures.capacity in
    let gcap = c.take_away.ensures.capacity in
    let like = rw (← c.self.view_is) at c.requires.like in
    let there = like-into _ _ like in
    record {
      people = rw e (people-merged _ _ _ _ _ c.take_away.ensures.sets c.requires.differ there was.people);
      seats_len = rw e (len ∙ was.seats_len ∙ sym n);
      seat_room = omega (arith, was.seat_room);
      group_room = rw e (omega (arith, was.group_room));
    }

pub returns-clause-order : goal.returns-clause-order
returns-clause-order c =
    ap (λ (ss : List Seat). map (λ (s : Seat). s.listener) ss) c.move_all.ensures.items
    ∙ order-moved c.args.from c.args.into c.self.inside.seats.items
    ∙ ap (λ (g : Grouping). order g) c.self.view_is
