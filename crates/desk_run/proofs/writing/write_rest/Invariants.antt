use Rattle.std.proofs.Common.{◌≡◌, ◌≤◌, ◌-◌, ℕ, List, Option}
use Rattle.conference_spec.specs.Feed.{Feed, closes}
use Rattle.desk_run.specs.Ends.{HasWritten}
use Rattle.desk_run.proofs.writing.write_rest.Given as goal

abbrev pub invariant-ticks : goal.invariant-ticks
invariant-ticks g l = record {
  same_sink : l.writer.ghost_name ≡ l.fn.writer.ghost_name;
  behind : l.written.ticks ≤ l.end;
  stands : (h : Feed) → g.C.Audience.stands l.fn.conference h l.fn.written.ticks → closes h ≡ l.end → g.C.Audience.stands l.conference h l.written.ticks;
  whole : (start : Option (List ℕ)) (h : Feed) → g.C.Audience.stands l.fn.conference h l.fn.written.ticks → closes h ≡ l.end
      → HasWritten start (g.K.Sink.held l.fn.writer.sink) l.fn.written h → HasWritten start (g.K.Sink.held l.writer.sink) l.written h;
  post : g.C.Audience.post l.conference ≡ g.C.Audience.post l.fn.conference;
  counts : g.K.Sink.faults l.writer.sink ≡ g.K.Sink.faults l.fn.writer.sink;
}

abbrev pub decreases-ticks : goal.decreases-ticks
decreases-ticks g l = l.end - l.written.ticks
