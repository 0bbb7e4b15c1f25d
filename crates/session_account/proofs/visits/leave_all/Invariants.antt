use Rattle.session_account.specs.Listening.{went}
use Rattle.session_account.proofs.Mapped.{Front}
use Rattle.session_account.proofs.visits.leave_all.Given as goal

abbrev pub invariant-loop-i : goal.invariant-loop-i
invariant-loop-i l = Front (went l.member l.closed) l.i l.fn.visits.items l.visits.items
