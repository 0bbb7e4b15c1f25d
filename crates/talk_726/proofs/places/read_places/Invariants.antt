use Rattle.talk_726.proofs.Placing.{Placed}
use Rattle.talk_726.proofs.places.read_places.Given as goal

abbrev pub invariant-loop-i : goal.invariant-loop-i
invariant-loop-i l = Placed l.codes l.places l.i
