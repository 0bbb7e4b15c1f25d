use Rattle.std.proofs.Common.{◌≡◌}
use Rattle.rooms_run.proofs.Answered.{Put}
use Rattle.rooms_run.proofs.putting.put_all.Given as goal

abbrev pub invariant-loop-i : goal.invariant-loop-i
invariant-loop-i g l = record {
  put : Put (g.O.Outs.held l.fn.outs) (g.O.Outs.held l.outs) l.list l.outcomes l.i;
  counts : g.O.Outs.faults l.outs ≡ g.O.Outs.faults l.fn.outs;
}
