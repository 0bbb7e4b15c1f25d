use Rattle.std.proofs.Common.{◌≡◌, ◌+◌, ◌≤◌, All, length, vec_len}
use Rattle.rooms_run.specs.Opening.{AreFresh, IsKeyed}
use Rattle.rooms_run.proofs.opening.open_all.Given as goal

abbrev pub invariant-loop-pass : goal.invariant-loop-pass
invariant-loop-pass g l = record {
  fresh : AreFresh l.locks l.passes.items;
  within : vec_len l.passes ≤ length l.locks;
  keyed : All (IsKeyed 0) l.keyed.items;
  count : vec_len l.keyed + vec_len l.passes ≡ vec_len l.fn.passes;
}

abbrev pub decreases-loop-pass : goal.decreases-loop-pass
decreases-loop-pass g l = vec_len l.passes
