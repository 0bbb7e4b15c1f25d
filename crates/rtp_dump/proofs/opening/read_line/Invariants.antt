use Rattle.std.proofs.Common.{◌≡◌}
use Rattle.edge_io.specs.Told.{Loses}
use Rattle.rtp_dump.proofs.LineTaken.{Front}
use Rattle.rtp_dump.proofs.opening.read_line.Given as goal

abbrev pub invariant-loop-at : goal.invariant-loop-at
invariant-loop-at g l = record {
  took : Loses (g.S.Source.rest l.fn.source) (g.S.Source.rest l.source) (Front l.at);
  steady : g.S.Source.faults l.source ≡ g.S.Source.faults l.fn.source;
}
