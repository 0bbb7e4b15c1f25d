use Rattle.std.proofs.Common.{rules}
use Rattle.edge_io.proofs.Progress.{takes_more, takes_none, takes_all}
use Rattle.edge_io.proofs.sources.read_full.Goals as goal

pub loop-filled-preserved : goal.loop-filled-preserved
loop-filled-preserved g c = record {
  in_buf = search rules;
  taken = takes_more _ _ _ _ _ _ _ _ c.loop-filled.invariant.in_buf (search rules) c.loop-filled.invariant.taken c.in_ok-n.ensures.octets;
  steady = search rules;
}

pub returns-then-n-eq0-clause-octets : goal.returns-then-n-eq0-clause-octets
returns-then-n-eq0-clause-octets g c =
    takes_none _ _ _ _ _ _ _ _ c.if-n-eq0.true c.loop-filled.invariant.in_buf c.loop-filled.invariant.taken c.in_ok-n.ensures.octets

pub returns-then-n-eq0-clause-told : goal.returns-then-n-eq0-clause-told
returns-then-n-eq0-clause-told g c =
    takes_all _ _ _ _ _ _ _ c.loop-filled.invariant.in_buf c.loop-filled.auto.buf (search rules) c.if-n-eq0.true c.loop-filled.invariant.taken c.in_ok-n.ensures.end
