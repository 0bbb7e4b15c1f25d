use Rattle.std.proofs.Common.{arith}
use Rattle.tick_core.proofs.Seats.{length-zip}
use Rattle.tick_core.proofs.open.Open.closed.Goals as goal

pub invariant_of-result : goal.invariant_of-result
invariant_of-result c =
    let seats = length-zip _ c.args.present.now c.seat_all.new.seats.items c.seat_all.ensures.closed.become in
    let room = c.seat_all.ensures.table_room in
    let a = c.requires.blank.rows in
    (omega arith, c.new-mixes.ensures.made c.args.talkers)
