use Rattle.tick_core.specs.Standing.{IsKnown}
use Rattle.tick_core.proofs.tests.run.Given as goal

abbrev pub invariant-loop-runs : goal.invariant-loop-runs
invariant-loop-runs l = IsKnown l.book
