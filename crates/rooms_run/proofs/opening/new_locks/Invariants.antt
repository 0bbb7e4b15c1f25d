use Rattle.std.proofs.Common.{◌≡◌, length}
use Rattle.rooms_run.specs.Opening.{AreFresh}
use Rattle.rooms_run.proofs.opening.new_locks.Given as goal

abbrev pub invariant-loop : goal.invariant-loop
invariant-loop l = record {
  fresh : AreFresh l.locks.items l.passes.items;
  locks : length l.locks.items ≡ l.counter;
  passes : length l.passes.items ≡ l.counter;
}
