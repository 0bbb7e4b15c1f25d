-- The codes so far are in the octets.
use Rattle.std.proofs.Common.{◌+◌}
use Rattle.pack3551.specs.Packs.{Packs}
use Rattle.pack3551.proofs.packing.add_eight.Given as goal

abbrev pub invariant-loop-k : goal.invariant-loop-k
invariant-loop-k l = Packs l.bits l.codes (l.from + l.k) l.octets l.packer.count l.packer.value l.packer.width
