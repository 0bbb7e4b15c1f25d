use Rattle.std.proofs.Common.{◌≡◌, ◌-◌}
use Rattle.conference_spec.specs.Machine.{Core}
use Rattle.tick_core.specs.Standing.{Stands}
use Rattle.desk_run.specs.BookSide.{IsWhole, waiting}
use Rattle.session_report.specs.Encoding.{HasCounted}
use Rattle.session_report.proofs.encoding.run_all.Given as goal

abbrev pub invariant-loop : goal.invariant-loop
invariant-loop l = (c : Core) → Stands l.fn.book c → IsWhole c → (l.end ≡ waiting c) × HasCounted (waiting c - l.counter) c l.book l.fn.runs l.runs
