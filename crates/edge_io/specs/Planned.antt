-- What the ends in memory that fail by plan are seen as.
use Rattle.std.specs.Prelude.{ℕ, List}
use Rattle.edge_io.specs.declared.plan.Plan.{Plan}
use Rattle.edge_io.specs.declared.named.Named.{Named}
use Rattle.edge_io.specs.File.{File}
use Rattle.edge_io.specs.Named.{file_among}

-- the octets that are left, and the plan
pub record PlannedSource : Type 0 where
  pub rest : List ℕ
  pub plan : Plan

-- the octets that are held, how often there was no memory, and the plan
pub record PlannedSink : Type 0 where
  pub octets : List ℕ
  pub lacks : ℕ
  pub plan : Plan

-- the files in the order in which they came, and the plan
pub record PlannedShelf : Type 0 where
  pub files : List Named
  pub plan : Plan

-- what the shelf tells of a name
abbrev pub file_of : PlannedShelf → List ℕ → File
file_of shelf name = file_among shelf.files name
