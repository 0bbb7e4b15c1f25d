use Rattle.std.proofs.Common.{◌≡◌, ℕ, ◌+◌}
use Rattle.enc_worker.proofs.worker.work.Given as goal

abbrev pub invariant-loop : goal.invariant-loop
invariant-loop g l = record {
  can : (goal.iterator-loop g).can_next l.iterator';
  ends : (goal.iterator-loop g).is_finite l.iterator';
  ready : g.T.Turns.ready l.turns;
  taken : (n : ℕ) → g.T.Turns.taken l.fn.turns n → g.T.Turns.taken l.turns (n + l.published);
  home : g.T.Turns.home l.turns ≡ g.T.Turns.home l.fn.turns;
}
