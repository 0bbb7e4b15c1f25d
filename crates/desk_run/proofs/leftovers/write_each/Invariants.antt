use Rattle.std.proofs.Common.{◌≡◌, take, length}
use Rattle.edge_io.specs.Told.{Grows}
use Rattle.conference_spec.specs.Codec.{g726}
use Rattle.conference_spec.specs.Feed.{Feed}
use Rattle.conference_spec.specs.Packets.{rest}
use Rattle.session_spec.specs.Answer.{tick_text}
use Rattle.desk_run.specs.BookSide.{StandsFor}
use Rattle.desk_run.proofs.leftovers.write_each.Given as goal

abbrev pub invariant-loop-i : goal.invariant-loop-i
invariant-loop-i g l = record {
  same_sink : l.writer.ghost_name ≡ l.fn.writer.ghost_name;
  grows : (f : Feed) → StandsFor l.book f → Grows (g.K.Sink.held l.fn.writer.sink) (g.K.Sink.held l.writer.sink) (tick_text l.ticks (take l.i (rest g726 f)));
  many : (f : Feed) → StandsFor l.book f → l.i-end ≡ length (rest g726 f);
  counts : g.K.Sink.faults l.writer.sink ≡ g.K.Sink.faults l.fn.writer.sink;
}
