use Rattle.std.proofs.Common.{length, ◌-◌, ◌≡◌, ◌≤◌}
use Rattle.edge_io.specs.Told.{Takes}
use Rattle.edge_io.proofs.sources.read_full.Given as goal

abbrev pub invariant-loop-filled : goal.invariant-loop-filled
invariant-loop-filled g l = record {
  in_buf : l.filled ≤ length l.buf;
  taken : Takes (g.S.Source.rest l.fn.source) (g.S.Source.rest l.source) l.filled l.buf;
  steady : g.S.Source.faults l.source ≡ g.S.Source.faults l.fn.source;
}

abbrev pub decreases-loop-filled : goal.decreases-loop-filled
decreases-loop-filled g l = length l.initial.buf - l.filled
