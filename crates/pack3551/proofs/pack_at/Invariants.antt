-- The codes so far are in the octets.
use Rattle.std.proofs.Common.{◌*◌}
use Rattle.pack3551.specs.Packs.{Packs}
use Rattle.pack3551.proofs.pack_at.Given as goal

abbrev pub invariant-loop-eighth : goal.invariant-loop-eighth
invariant-loop-eighth l = Packs l.bits l.codes (8 * l.eighth) l.octets l.packer.count l.packer.value l.packer.width
