use Rattle.std.proofs.Common.{◌≡◌, ◌≤◌, length, ◌∙◌, sym, arith, ap}
use Rattle.enc_group.proofs.Counts.{count-le_seats}
use Rattle.enc_group.proofs.groups.Groups.reserve.Goals as goal

pub overflow_sub-more : goal.overflow_sub-more
overflow_sub-more c =
    let was = c.self.invariant in
    let few = count-le_seats c.self.inside.seats.items c.self.inside.groups.slots was.people.peopled in
    omega (arith, few, was.seats_len, c.reserve.ensures.len, c.len.ensures, c.len-2.ensures)

pub invariant_of-self-in_err-reserve-2 : goal.invariant_of-self-in_err-reserve-2
invariant_of-self-in_err-reserve-2 c =
    let was = c.self.invariant in
    let g = c.reserve-2.ensures.rest_kept in
    let e = c.reserve.ensures.items in
    record {
      people = rw (e, g) was.people;
      seats_len = rw e (c.reserve.ensures.len ∙ was.seats_len);
      seat_room = omega (arith, was.seat_room, c.reserve.ensures.len, c.reserve.ensures.capacity);
      group_room = rw e (omega (arith, was.group_room, c.reserve-2.ensures.capacity));
    }

pub invariant_of-self-2 : goal.invariant_of-self-2
invariant_of-self-2 c =
    let was = c.self.invariant in
    let g = c.reserve-2.ensures.rest_kept in
    let e = c.reserve.ensures.items in
    let few = count-le_seats c.self.inside.seats.items c.self.inside.groups.slots was.people.peopled in
    let room = rw g at c.in_ok-reserve-2.ensures.room in
    record {
      people = rw (e, g) was.people;
      seats_len = rw e (c.reserve.ensures.len ∙ was.seats_len);
      seat_room = omega (arith, c.in_ok-reserve.ensures.ok);
      group_room = rw e (omega (arith, room, few, was.seats_len, c.len.ensures, c.len-2.ensures, c.reserve.ensures.len));
    }
