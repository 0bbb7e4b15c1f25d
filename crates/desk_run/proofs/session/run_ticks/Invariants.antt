use Rattle.std.proofs.Common.{◌≡◌, ◌≤◌}
use Rattle.desk_run.specs.Taking.{IsGoing}
use Rattle.desk_run.specs.Ends.{Between}
use Rattle.desk_run.proofs.Standing.{Standing}
use Rattle.desk_run.proofs.session.run_ticks.Given as goal

abbrev pub invariant-loop-tick : goal.invariant-loop-tick
invariant-loop-tick g l = record {
  same_source : l.reader.ghost_name ≡ l.fn.reader.ghost_name;
  same_sink : l.writer.ghost_name ≡ l.fn.writer.ghost_name;
  going : IsGoing l.reader;
  plan : g.D.DeskSide.plan l.desk ≡ g.D.DeskSide.plan l.fn.desk;
  post : g.C.Audience.post l.conference ≡ g.C.Audience.post l.fn.conference;
  never_falls : g.S.Source.faults l.fn.reader.source ≤ g.S.Source.faults l.reader.source;
  counts : g.K.Sink.faults l.writer.sink ≡ g.K.Sink.faults l.fn.writer.sink;
  standing : Standing (λ s. g.S.Source.rest s) l.fn.reader l.reader (g.D.DeskSide.plan l.fn.desk) l.tick
      (Between (λ h. g.D.DeskSide.begins l.desk h) (λ f n. g.C.Audience.stands l.conference f n)
      (g.K.Sink.held l.fn.writer.sink) (g.K.Sink.held l.writer.sink) l.written l.tick);
}
