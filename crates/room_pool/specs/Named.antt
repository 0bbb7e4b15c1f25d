-- What a line of a list of rooms names.
use Rattle.std.specs.Prelude.{ℕ, List}

-- the names of a roster, of a capture, and of the output that the answer goes to
pub record Named : Type 0 where
  pub roster : List ℕ
  pub dump : List ℕ
  pub out : List ℕ
