use Rattle.std.proofs.Common.{◌≡◌, ◌≤◌, ◌+◌, length}
use Rattle.rtcp_pack.specs.Compound.{compound, counted, packets_behind}
use Rattle.rtcp_pack.proofs.compound.check.Given as goal

abbrev pub invariant-loop-rest : goal.invariant-loop-rest
invariant-loop-rest l = record {
  same : counted l.count (packets_behind 0 l.rest) ≡ compound l.bytes;
  few : l.count + length l.rest ≤ 65536;
}

abbrev pub decreases-loop-rest : goal.decreases-loop-rest
decreases-loop-rest l = length l.rest
