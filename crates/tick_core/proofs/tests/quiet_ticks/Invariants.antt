use Rattle.tick_core.specs.Standing.{IsKnown}
use Rattle.tick_core.proofs.tests.quiet_ticks.Given as goal

abbrev pub invariant-loop-tick : goal.invariant-loop-tick
invariant-loop-tick l = IsKnown l.book
