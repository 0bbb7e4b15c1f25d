use Rattle.std.proofs.Common.{◌≡◌, take}
use Rattle.edge_io.specs.Told.{Grows}
use Rattle.session_spec.specs.Answer.{tick_text}
use Rattle.desk_run.proofs.writing.write_packets.Given as goal

abbrev pub invariant-loop-i : goal.invariant-loop-i
invariant-loop-i g l = record {
  same_sink : l.writer.ghost_name ≡ l.fn.writer.ghost_name;
  grows : Grows (g.K.Sink.held l.fn.writer.sink) (g.K.Sink.held l.writer.sink) (tick_text l.tick (take l.i l.packets.packets));
  counts : g.K.Sink.faults l.writer.sink ≡ g.K.Sink.faults l.fn.writer.sink;
}
