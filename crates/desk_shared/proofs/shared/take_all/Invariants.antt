use Rattle.std.proofs.Common.{◌≡◌, All, length}
use Rattle.desk_shared.proofs.shared.take_all.Given as goal

abbrev pub invariant-loop-worker : goal.invariant-loop-worker
invariant-loop-worker g l = record {
  homes : All (λ w. w.pass.home ≡ l.fn.seat.home) l.workers.items;
  out : l.seat.view.out ≡ length l.workers.items;
  home : l.seat.home ≡ l.fn.seat.home;
  seen : l.seat.view.seen ≡ l.fn.seat.view.seen;
}

abbrev pub decreases-loop-worker : goal.decreases-loop-worker
decreases-loop-worker g l = goal.left-loop-worker g l
