use Rattle.std.proofs.Common.{sym, ◌∙◌, arith}
use Rattle.rtcp_pack.proofs.Ends.{chunk_missing, chunk_taken, no_chunks}
use Rattle.rtcp_pack.proofs.chunks.chunks_fit.Goals as goal

pub returns-in_default : goal.returns-in_default
returns-in_default c =
    sym (chunk_missing c.loop-left.left c.loop-left.rest.now c.loop-left-test.true (sym c.chunk_len.ensures.len ∙ c.in_default.is)) ∙ c.loop-left.invariant.same

pub loop-left-preserved : goal.loop-left-preserved
loop-left-preserved c = record {
  same = rw c.split_at.ensures.back
      (sym (chunk_taken c.loop-left.left c.in-Some.len c.loop-left.rest.now c.loop-left-test.true (sym c.chunk_len.ensures.len ∙ c.in-Some.is)) ∙ c.loop-left.invariant.same);
  whole = omega (arith, c.in-Some.ensures.within, c.split_at.ensures.back_len, c.loop-left.invariant.whole);
}

pub returns : goal.returns
returns c = sym (no_chunks c.loop-left.left c.loop-left.rest.now c.loop-left-test.false) ∙ c.loop-left.invariant.same
