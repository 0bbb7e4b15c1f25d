use Rattle.std.proofs.Common.{◌≡◌}
use Rattle.book_lock.proofs.tests.look_all.Given as goal

abbrev pub invariant-loop : goal.invariant-loop
invariant-loop g l = (l.worker.home ≡ l.fn.worker.home) × (l.worker.view.worker ≡ l.fn.worker.view.worker)
