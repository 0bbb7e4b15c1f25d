use Rattle.std.proofs.Common.{arith}
use Rattle.enc_group.proofs.People.{people-put}
use Rattle.enc_group.proofs.Likes.{full-there}
use Rattle.enc_group.proofs.groups.Groups.lift.Goals as goal

pub invariant_of-self : goal.invariant_of-self
invariant_of-self c =
    let was = c.self.invariant in
    let cap = c.put.ensures.capacity in
    let full = rw (← c.self.view_is) at c.requires.full in
    record {
      people = people-put _ _ _ _ _ c.put.ensures.sets (full-there _ full) was.people;
      seats_len = was.seats_len;
      seat_room = was.seat_room;
      group_room = omega (arith, was.group_room);
    }
