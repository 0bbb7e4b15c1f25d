use Rattle.std.proofs.Common.{◌≡◌, ◌+◌, length}
use Rattle.bench_book.proofs.coders.encode_each.Given as goal

abbrev pub invariant-loop-at : goal.invariant-loop-at
invariant-loop-at l = (length l.coders ≡ length l.fn.coders) × (l.meter ≡ l.fn.meter + l.at)
