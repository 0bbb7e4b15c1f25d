use Rattle.std.proofs.Common.{length, ◌-◌, ◌≡◌, ◌≤◌, take}
use Rattle.edge_io.specs.Told.{Grows}
use Rattle.edge_io.proofs.sinks.write_all.Given as goal

abbrev pub invariant-loop-written : goal.invariant-loop-written
invariant-loop-written g l = record {
  in_piece : l.written ≤ length l.piece;
  grown : Grows (g.K.Sink.held l.fn.sink) (g.K.Sink.held l.sink) (take l.written l.piece);
  steady : g.K.Sink.faults l.sink ≡ g.K.Sink.faults l.fn.sink;
  lacks : g.K.Sink.lacks l.sink ≡ g.K.Sink.lacks l.fn.sink;
}

abbrev pub decreases-loop-written : goal.decreases-loop-written
decreases-loop-written g l = length l.piece - l.written
