use Rattle.std.proofs.Common.{rules}
use Rattle.edge_io.proofs.Progress.{grows_more}
use Rattle.edge_io.proofs.sinks.write_all.Goals as goal

pub loop-written-preserved : goal.loop-written-preserved
loop-written-preserved g c = record {
  in_piece = search rules;
  grown = grows_more _ _ _ _ _ _ c.loop-written.invariant.grown c.in_ok-written.ensures.grows;
  steady = search rules;
  lacks = search rules;
}
