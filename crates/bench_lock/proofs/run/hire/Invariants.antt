use Rattle.std.proofs.Common.{◌≡◌, true, vec_len}
use Rattle.std.specs.List.{All}
use Rattle.bench_lock.proofs.run.hire.Given as goal

abbrev pub invariant-loop : goal.invariant-loop
invariant-loop l =
    (l.desk.home ≡ l.fn.desk.home) × (l.desk.view.desk ≡ true) × (l.desk.view.seen ≡ l.fn.desk.view.seen) × (l.desk.view.out ≡ l.counter) × (vec_len l.workers ≡ l.counter)
    × All (λ p. (p.home ≡ l.lock) × (p.view.worker ≡ true)) l.workers.items
