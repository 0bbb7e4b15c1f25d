use Rattle.std.proofs.Common.{◌≡◌, ◌+◌, drop}
use Rattle.audit_check.specs.Difference.{common}
use Rattle.audit_check.proofs.compare.common.Given as goal

abbrev pub invariant-loop-i : goal.invariant-loop-i
invariant-loop-i l = common l.one l.other ≡ l.i + common (drop l.i l.one) (drop l.i l.other)
