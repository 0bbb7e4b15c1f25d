use Rattle.std.proofs.Common.{◌+◌, ℕ, All, length}
use Rattle.std.specs.List.{AllWithin}
use Rattle.rooms_run.specs.Opening.{IsKeyed}
use Rattle.rooms_run.proofs.opening.hire_one.Given as goal

abbrev pub invariant-loop-room : goal.invariant-loop-room
invariant-loop-room g l = record {
  hired : (n : ℕ) → All (IsKeyed n) l.fn.keyed → AllWithin (IsKeyed (n + 1)) l.keyed 0 l.room-index;
  rest : (n : ℕ) → All (IsKeyed n) l.fn.keyed → AllWithin (IsKeyed n) l.keyed l.room-index (length l.keyed);
}
