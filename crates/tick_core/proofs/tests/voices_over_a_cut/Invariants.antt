use Rattle.tick_core.specs.Standing.{IsKnown}
use Rattle.tick_core.proofs.tests.voices_over_a_cut.Given as goal

abbrev pub invariant-loop-at : goal.invariant-loop-at
invariant-loop-at g l = IsKnown l.book × IsKnown l.other
