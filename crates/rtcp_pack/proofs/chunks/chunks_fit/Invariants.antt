use Rattle.std.proofs.Common.{◌≡◌, ◌%◌, length}
use Rattle.rtcp_pack.specs.Chunks.{chunks_fit}
use Rattle.rtcp_pack.proofs.chunks.chunks_fit.Given as goal

abbrev pub invariant-loop-left : goal.invariant-loop-left
invariant-loop-left l = record {
  same : chunks_fit l.left l.rest ≡ chunks_fit l.fn.count l.body;
  whole : length l.rest % 4 ≡ 0;
}

abbrev pub decreases-loop-left : goal.decreases-loop-left
decreases-loop-left l = l.left
