use Rattle.tick_core.specs.Standing.{IsKnown}
use Rattle.tick_core.proofs.tests.differs.Given as goal

abbrev pub invariant-loop-at : goal.invariant-loop-at
invariant-loop-at l = IsKnown l.book
