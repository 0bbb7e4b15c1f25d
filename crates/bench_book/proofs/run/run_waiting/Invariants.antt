use Rattle.tick_core.specs.Standing.{IsKnown}
use Rattle.bench_book.specs.Ticks.{KeepsFeed}
use Rattle.bench_book.proofs.run.run_waiting.Given as goal

abbrev pub invariant-loop : goal.invariant-loop
invariant-loop l = IsKnown l.book × KeepsFeed l.fn.book l.book
