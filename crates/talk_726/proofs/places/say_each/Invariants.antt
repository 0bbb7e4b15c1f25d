use Rattle.talk_726.proofs.Placing.{Said}
use Rattle.talk_726.proofs.places.say_each.Given as goal

abbrev pub invariant-loop-i : goal.invariant-loop-i
invariant-loop-i l = Said l.rate l.fn.state l.places l.i l.state l.samples
