use Rattle.std.proofs.Common.{◌≡◌, ◌∙◌, sym, arith}
use Rattle.std.proofs.lemmas.List.{length-map}
use Rattle.enc_group.specs.Mixes.{parted}
use Rattle.enc_group.proofs.People.{room-for_part, people-parted}
use Rattle.enc_group.proofs.groups.Groups.part_off.Goals as goal

pub add-new_key-requires : goal.add-new_key-requires
add-new_key-requires c =
    let there = rw (← c.self.view_is) at c.requires.there in
    let stays = rw (← c.self.view_is) at c.requires.stays in
    let goes = rw (← c.self.view_is) at c.requires.goes in
    let room = room-for_part _ _ c.args.key c.args.first.now c.args.part.now c.args.tick.now there stays goes c.requires.differ c.self.invariant.people in
    omega (arith, room, c.self.invariant.group_room)

pub invariant_of-self : goal.invariant_of-self
invariant_of-self c =
    let was = c.self.invariant in
    let there = rw (← c.self.view_is) at c.requires.there in
    let stays = rw (← c.self.view_is) at c.requires.stays in
    let goes = rw (← c.self.view_is) at c.requires.goes in
    let e = c.move_part.ensures.items in
    let len = c.move_part.ensures.len in
    let cap = c.move_part.ensures.capacity in
    let gcap = c.add-new_key.ensures.capacity in
    let n = length-map c.self.inside.seats.items (parted c.args.key c.add-new_key.result c.args.part.now c.args.tick.now) in
    record {
      people = rw e (people-parted _ _ c.args.key c.args.first.now c.args.part.now c.args.tick.now there stays goes
          c.requires.differ was.people _ _ _ c.add-new_key.ensures.sets c.add-new_key.ensures.was_free);
      seats_len = rw e (len ∙ was.seats_len ∙ sym n);
      seat_room = omega (arith, was.seat_room);
      group_room = rw e (omega (arith, was.group_room));
    }
