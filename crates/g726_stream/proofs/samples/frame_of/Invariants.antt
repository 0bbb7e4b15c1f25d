-- The samples so far are in place.
use Rattle.g726_stream.proofs.FrameLists.{Built}
use Rattle.g726_stream.proofs.samples.frame_of.Given as goal

abbrev pub invariant-loop-i : goal.invariant-loop-i
invariant-loop-i l = Built l.octets l.i l.samples
