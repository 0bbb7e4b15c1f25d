use Rattle.std.proofs.Common.{◌≡◌, ◌+◌, true, length}
use Rattle.bench_lock.proofs.run.sign_all.Given as goal

abbrev pub invariant-loop : goal.invariant-loop
invariant-loop g l =
    (l.desk.home ≡ l.fn.desk.home) × (l.desk.view.desk ≡ true) × (l.desk.view.out ≡ l.fn.desk.view.out) × (length l.desk.view.seen ≡ length l.fn.desk.view.seen + l.counter) × (l.desk.view.turns ≡ l.fn.desk.view.turns + l.counter)
