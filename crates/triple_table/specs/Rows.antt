-- The rows of a table: the triples of one tick, each once, with its number and its stage.
use Rattle.std.specs.Prelude.{◌≡◌, ◌≢◌, ℕ, List, Some, slice_get}
use Rattle.std.specs.List.{All}
use Rattle.g726_codec.specs.declared.Triple.{Triple}
use Rattle.conference_spec.specs.declared.Stage.{Stage}

pub record Row : Type 0 where
  pub triple : Triple
  pub number : ℕ
  pub stage : Stage

-- what contracts see of a table: its rows, the oldest first, and how many it can hold without memory
pub record Rows : Type 0 where
  pub rows : List Row
  pub room : ℕ

-- a row at another stage
abbrev pub staged : Row → Stage → Row
staged r stage = record { triple = r.triple; number = r.number; stage = stage }

-- no row is of this triple
abbrev pub IsNewTriple : List Row → Triple → Type 0
IsNewTriple rows t = All (λ r. r.triple ≢ t) rows

-- the row at this place is of this triple
pub record IsRowOf (rows : List Row) (at : ℕ) (t : Triple) : Type 0 where
  pub row : Row
  pub there : slice_get rows at ≡ Some row
  pub same : row.triple ≡ t

-- the row at this place is at this stage
pub record IsAtStage (rows : List Row) (at : ℕ) (stage : Stage) : Type 0 where
  pub row : Row
  pub there : slice_get rows at ≡ Some row
  pub stage_is : row.stage ≡ stage
