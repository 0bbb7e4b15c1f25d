use Rattle.std.proofs.Common.{◌≡◌, ◌+◌, drop}
use Rattle.tick_core.specs.Sweeping.{all_seats}
use Rattle.tick_core.proofs.book.seats_of.Given as goal

abbrev pub invariant-loop-tick : goal.invariant-loop-tick
invariant-loop-tick l = l.seats + all_seats (drop l.tick-index l.ticks) ≡ all_seats l.ticks
