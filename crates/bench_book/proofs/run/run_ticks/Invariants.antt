use Rattle.std.proofs.Common.{◌≡◌, ◌*◌, ◌≤◌}
use Rattle.conference_spec.specs.Machine.{Core}
use Rattle.tick_core.specs.Standing.{Stands}
use Rattle.bench_book.specs.Ticks.{StandsSettled, GoesOn, crowd, IsSettled}
use Rattle.bench_book.proofs.run.run_ticks.Given as goal

abbrev pub invariant-loop : goal.invariant-loop
invariant-loop l = StandsSettled l.book × GoesOn 0 l.counter l.fn.book l.book × ((c : Core) → Stands l.fn.book c → IsSettled c → l.packets ≡ l.counter * crowd c) × (l.packets ≤ l.counter * 1024)
