use Rattle.std.proofs.Common.{◌≡◌, ◌+◌, true}
use Rattle.bench_lock.proofs.run.visit_all.Given as goal

abbrev pub invariant-loop : goal.invariant-loop
invariant-loop g l = (l.pass.home ≡ l.fn.pass.home) × (l.pass.view.worker ≡ true) × (l.pass.view.turns ≡ l.fn.pass.view.turns + l.counter)
