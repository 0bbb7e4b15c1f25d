use Rattle.std.proofs.Common.{◌≡◌, take}
use Rattle.session_account.specs.Encoding.{packets_at}
use Rattle.session_account.proofs.report.packets_of.Given as goal

abbrev pub invariant-loop-i : goal.invariant-loop-i
invariant-loop-i l = l.packets ≡ packets_at l.rate (take l.i l.listeners)
