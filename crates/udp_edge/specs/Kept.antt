-- What a link in memory is seen as.
use Rattle.std.specs.Prelude.{Bool}
use Rattle.edge_io.specs.declared.plan.Plan.{Plan}
use Rattle.udp_edge.specs.Traffic.{Traffic}

-- what it tells, whether it is open, and which calls of `open` and `send` are to fail; its count of failures is of all calls
pub record Kept : Type 0 where
  pub traffic : Traffic
  pub is_open : Bool
  pub plan : Plan
