use Rattle.std.proofs.Common.{◌≡◌, ◌++◌, map, take, drop}
use Rattle.enc_group.specs.Groups.{moved}
use Rattle.enc_group.proofs.seats.move_each.Given as goal

-- the first ones were looked at, and the others are as they were
abbrev pub invariant-loop-seat : goal.invariant-loop-seat
invariant-loop-seat l = l.seats ≡ map (moved l.from l.into) (take l.seat-index l.fn.seats) ++ drop l.seat-index l.fn.seats
