use Rattle.std.proofs.Common.{◌≡◌, ◌+◌, ℕ, List, Option, map, length}
use Rattle.conference_spec.specs.Feed.{Feed}
use Rattle.tick_core.specs.Held.{Sent}
use Rattle.desk_run.specs.Handing.{sent_from}
use Rattle.desk_run.specs.Ends.{HasWritten}
use Rattle.desk_run.proofs.writing.write_ticks.Given as goal

abbrev pub invariant-loop-packets : goal.invariant-loop-packets
invariant-loop-packets g l = record {
  same_sink : l.writer.ghost_name ≡ l.fn.writer.ghost_name;
  so_far : l.written.ticks ≡ l.fn.written.ticks + l.packets-index;
  whole : (start : Option (List ℕ)) (h : Feed) → map (λ (t : Sent). t.packets) l.ticks ≡ sent_from l.fn.written.ticks (length l.ticks) h
      → HasWritten start (g.K.Sink.held l.fn.writer.sink) l.fn.written h → HasWritten start (g.K.Sink.held l.writer.sink) l.written h;
  counts : g.K.Sink.faults l.writer.sink ≡ g.K.Sink.faults l.fn.writer.sink;
}
