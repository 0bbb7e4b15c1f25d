use Rattle.std.proofs.Common.{◌≡◌, take}
use Rattle.edge_io.specs.Told.{Grows}
use Rattle.rooms_run.specs.Texts.{rooms_text}
use Rattle.rooms_run.proofs.Lines.{ends_of}
use Rattle.rooms_run.proofs.telling.tell_all.Given as goal

abbrev pub invariant-loop-i : goal.invariant-loop-i
invariant-loop-i g l = record {
  told : Grows (g.E.Sink.held l.fn.err) (g.E.Sink.held l.err) (rooms_text 1 (ends_of (take l.i l.outcomes)));
  counts : g.E.Sink.faults l.err ≡ g.E.Sink.faults l.fn.err;
  lacks : g.E.Sink.lacks l.err ≡ g.E.Sink.lacks l.fn.err;
}
