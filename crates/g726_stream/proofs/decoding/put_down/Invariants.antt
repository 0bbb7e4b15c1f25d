-- The samples so far are put down.
use Rattle.g726_stream.proofs.CodeLists.{PutDown}
use Rattle.g726_stream.proofs.decoding.put_down.Given as goal

abbrev pub invariant-loop-i : goal.invariant-loop-i
invariant-loop-i l = PutDown l.samples l.i l.octets
