use Rattle.std.proofs.Common.{◌≡◌, All, length}
use Rattle.desk_shared.proofs.shared.hire.Given as goal

abbrev pub invariant-loop : goal.invariant-loop
invariant-loop g l = record {
  homes : All (λ w. w.pass.home ≡ l.fn.seat.home) l.workers.items;
  count : length l.workers.items ≡ l.counter;
  out : l.seat.view.out ≡ l.counter;
  home : l.seat.home ≡ l.fn.seat.home;
  seen : l.seat.view.seen ≡ l.fn.seat.view.seen;
}
