use Rattle.jitter_line.proofs.Laying.{Going}
use Rattle.std.proofs.Common.{◌+◌, ◌^◌}
use Rattle.jitter_line.proofs.places.lay_over.Given as goal

abbrev pub invariant-loop-j : goal.invariant-loop-j
invariant-loop-j l = Going l.fn.ring.items l.ring (l.place + 2 ^ 31) l.samples l.new l.j
