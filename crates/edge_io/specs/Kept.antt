-- What a sink in memory is seen as.
use Rattle.std.specs.Prelude.{ℕ, List}

-- the octets that it holds, and how often there was no memory
pub record Kept : Type 0 where
  pub octets : List ℕ
  pub lacks : ℕ
