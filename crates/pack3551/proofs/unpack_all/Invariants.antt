-- The codes so far are those of the octets taken.
use Rattle.std.proofs.Common.{length}
use Rattle.pack3551.proofs.Unpacking.{Waits}
use Rattle.pack3551.proofs.unpack_all.Given as goal

abbrev pub invariant-loop-i : goal.invariant-loop-i
invariant-loop-i l = Waits l.bits l.octets (length l.initial.codes) l.i l.codes l.unpacker
