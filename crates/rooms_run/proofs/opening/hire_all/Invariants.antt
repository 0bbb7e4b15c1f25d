use Rattle.std.proofs.Common.{◌≡◌, ◌+◌, All, vec_len}
use Rattle.rooms_run.specs.Opening.{IsKeyed}
use Rattle.rooms_run.proofs.opening.hire_all.Given as goal

abbrev pub invariant-loop : goal.invariant-loop
invariant-loop g l = record {
  count : vec_len l.workers ≡ l.counter;
  keyed : All (IsKeyed l.counter) l.keyed;
}
