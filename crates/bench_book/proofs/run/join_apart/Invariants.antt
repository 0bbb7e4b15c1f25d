use Rattle.std.proofs.Common.{ℕ}
use Rattle.bench_book.specs.Ticks.{StandsSettled, GoesOn}
use Rattle.bench_book.proofs.run.join_apart.Given as goal

abbrev pub invariant-loop-i : goal.invariant-loop-i
invariant-loop-i l = StandsSettled l.book × ((k : ℕ) × GoesOn l.i k l.fn.book l.book)
