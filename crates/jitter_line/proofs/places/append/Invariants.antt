use Rattle.std.proofs.Common.{◌≡◌, ◌*◌, ◌++◌, Some, map, take}
use Rattle.circular_buffer.specs.Buffer.{buffer}
use Rattle.jitter_line.proofs.places.append.Given as goal

abbrev pub invariant-loop-k : goal.invariant-loop-k
invariant-loop-k l = l.ring ≡ buffer (l.fn.ring.items ++ map Some (take (160 * l.k) l.samples)) 3200
