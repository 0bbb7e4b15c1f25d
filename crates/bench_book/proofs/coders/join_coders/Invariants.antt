use Rattle.std.proofs.Common.{◌≡◌, ◌*◌, ◌≤◌, length}
use Rattle.bench_book.proofs.coders.join_coders.Given as goal

abbrev pub invariant-loop-i : goal.invariant-loop-i
invariant-loop-i l = (length l.coders.items ≡ l.i) × (l.meter ≤ l.i * 1024)
