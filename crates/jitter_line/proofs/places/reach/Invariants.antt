use Rattle.jitter_line.proofs.Laying.{Reaching}
use Rattle.jitter_line.proofs.places.reach.Given as goal

abbrev pub invariant-loop : goal.invariant-loop
invariant-loop l = Reaching l.fn.ring.items l.ring l.count l.counter
