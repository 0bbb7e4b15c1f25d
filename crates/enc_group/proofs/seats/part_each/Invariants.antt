use Rattle.std.proofs.Common.{◌≡◌, ◌++◌, map, take, drop}
use Rattle.enc_group.specs.Mixes.{parted}
use Rattle.enc_group.proofs.seats.part_each.Given as goal

-- the first ones were looked at, and the others are as they were
abbrev pub invariant-loop-seat : goal.invariant-loop-seat
invariant-loop-seat l = l.seats ≡ map (parted l.from l.into l.part l.tick) (take l.seat-index l.fn.seats) ++ drop l.seat-index l.fn.seats
