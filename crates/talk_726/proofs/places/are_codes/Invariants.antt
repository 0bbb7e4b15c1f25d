use Rattle.talk_726.proofs.Placing.{Coded}
use Rattle.talk_726.proofs.places.are_codes.Given as goal

abbrev pub invariant-loop-i : goal.invariant-loop-i
invariant-loop-i l = Coded l.fn.rate l.places l.codes l.i
