use Rattle.std.proofs.Common.{length}
use Rattle.tick_core.proofs.sweep.+sweep.Given as goal

abbrev pub decreases-sweep : goal.decreases-sweep
decreases-sweep l = length l.newer.now
