use Rattle.bench_book.specs.Ticks.{StandsSettled, GoesOn}
use Rattle.bench_book.proofs.run.join_together.Given as goal

abbrev pub invariant-loop-i : goal.invariant-loop-i
invariant-loop-i l = StandsSettled l.book × GoesOn l.i 0 l.fn.book l.book
