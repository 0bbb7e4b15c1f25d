use Rattle.std.proofs.Common.{◌≡◌, ◌+◌, ◌*◌, ◌≤◌, length}
use Rattle.bench_book.proofs.coders.encode_alone.Given as goal

abbrev pub invariant-loop-tick : goal.invariant-loop-tick
invariant-loop-tick l = (length l.coders.items ≡ l.fn.listeners) × (l.meter ≡ l.before + l.tick * l.fn.listeners) × (l.meter ≤ l.before + l.tick * 1024)
