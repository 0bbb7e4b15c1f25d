use Rattle.std.proofs.Common.{◌≡◌, ◌∙◌, sym, arith, length, ◌∷◌, [], length-append}
use Rattle.enc_group.specs.declared.Seat.{Seat}
use Rattle.enc_group.proofs.Counts.{count-le_seats}
use Rattle.enc_group.proofs.Entering.{people-entered}
use Rattle.enc_group.proofs.groups.Groups.admit.Goals as goal

pub enter-key-requires : goal.enter-key-requires
enter-key-requires c =
    let was = c.self.invariant in
    let room = rw (← c.self.view_is) at c.requires.room in
    let few = count-le_seats c.self.inside.seats.items c.self.inside.groups.slots was.people.peopled in
    omega (arith, was.group_room, room, few)

pub invariant_of-self : goal.invariant_of-self
invariant_of-self c =
    let was = c.self.invariant in
    let room = rw (← c.self.view_is) at c.requires.room in
    let new = rw (← c.self.view_is) at c.requires.new in
    let e = c.push_reserved.ensures.items in
    let len = c.push_reserved.ensures.len in
    let cap = c.push_reserved.ensures.capacity in
    let gcap = c.enter-key.ensures.capacity in
    let seat : Seat = record { listener = c.args.listener; key = c.enter-key.result } in
    let n = length-append c.self.inside.seats.items (seat ∷ []) in
    record {
      people = rw e (people-entered _ _ c.self.inside.seats.items c.enter-key.result c.args.listener _ c.enter-key.ensures.sets new was.people);
      seats_len = rw e (omega (arith, was.seats_len, len, n));
      seat_room = omega (arith, was.seat_room, len, cap, room);
      group_room = rw e (omega (arith, was.group_room, gcap, room, n));
    }
