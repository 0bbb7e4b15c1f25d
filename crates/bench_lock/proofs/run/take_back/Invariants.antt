use Rattle.std.proofs.Common.{◌≡◌, true, vec_len}
use Rattle.std.specs.List.{All}
use Rattle.bench_lock.proofs.run.take_back.Given as goal

abbrev pub invariant-loop-worker : goal.invariant-loop-worker
invariant-loop-worker l =
    (l.desk.home ≡ l.fn.desk.home) × (l.desk.view.desk ≡ true) × (l.desk.view.seen ≡ l.fn.desk.view.seen) × (l.desk.view.out ≡ vec_len l.workers)
    × All (λ p. (p.home ≡ l.lock) × (p.view.worker ≡ true)) l.workers.items

abbrev pub decreases-loop-worker : goal.decreases-loop-worker
decreases-loop-worker l = goal.left-loop-worker l
