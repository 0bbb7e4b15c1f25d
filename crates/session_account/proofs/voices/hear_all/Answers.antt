use Rattle.std.proofs.Common.{◌∙◌, arith}
use Rattle.session_account.specs.Speaking.{hears, unheard}
use Rattle.session_account.proofs.Mapped.{front_more, map-set}
use Rattle.session_account.proofs.voices.hear_all.Goals as goal

pub loop-i-preserved : goal.loop-i-preserved
loop-i-preserved c = record {
  front =
      front_more (hears c.args.tick.now) c.loop-i.i c.args.talkers.now.items c.loop-i.talkers.items c.index_mut.result.now c.hear.new.self
      c.loop-i.invariant.front (omega (arith, c.len-i-end.ensures)) c.index_mut.ensures.value c.in_ok-hear.ensures.counts;
  same =
      map-set unheard c.loop-i.i c.loop-i.talkers.items c.index_mut.result.now c.hear.new.self c.index_mut.ensures.value c.hear.ensures.same
      ∙ c.loop-i.invariant.same;
}

pub returns-in_err-hear-clause-same : goal.returns-in_err-hear-clause-same
returns-in_err-hear-clause-same c =
    map-set unheard c.loop-i.i c.loop-i.talkers.items c.index_mut.result.now c.hear.new.self c.index_mut.ensures.value c.hear.ensures.same
    ∙ c.loop-i.invariant.same
