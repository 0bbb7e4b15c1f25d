use Rattle.std.proofs.Common.{arith}
use Rattle.jitter_line.proofs.Laying.{reaching_more}
use Rattle.jitter_line.proofs.places.reach.Goals as goal

pub loop-preserved : goal.loop-preserved
loop-preserved c = rw (c.push_back.ensures.items, c.empty.ensures) (reaching_more _ _ _ _ c.loop.invariant (omega arith) (omega arith))
