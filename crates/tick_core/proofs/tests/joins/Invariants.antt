use Rattle.tick_core.specs.Standing.{IsKnown}
use Rattle.tick_core.proofs.tests.joins.Given as goal

abbrev pub invariant-loop-member : goal.invariant-loop-member
invariant-loop-member l = IsKnown l.book
