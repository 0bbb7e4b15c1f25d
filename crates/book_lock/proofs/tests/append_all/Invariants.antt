use Rattle.std.proofs.Common.{◌≡◌, true}
use Rattle.book_lock.proofs.tests.append_all.Given as goal

abbrev pub invariant-loop-number : goal.invariant-loop-number
invariant-loop-number g l = (l.desk.home ≡ l.fn.desk.home) × (l.desk.view.desk ≡ true) × (l.desk.view.out ≡ l.fn.desk.view.out)
