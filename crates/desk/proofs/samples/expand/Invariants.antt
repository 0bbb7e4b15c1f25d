use Rattle.std.proofs.Common.{◌*◌}
use Rattle.desk.proofs.Expanding.{Expanding}
use Rattle.desk.proofs.samples.expand.Given as goal

abbrev pub invariant-loop-k : goal.invariant-loop-k
invariant-loop-k l = Expanding l.law l.payload l.samples (4 * l.k)

abbrev pub invariant-loop-i : goal.invariant-loop-i
invariant-loop-i l = Expanding l.law l.payload l.samples l.i
