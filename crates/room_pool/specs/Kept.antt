-- What outputs in memory are seen as.
use Rattle.std.specs.Prelude.{ℕ, Bool, List, [], Option, None, Some}
use Rattle.std.specs.List.{find}
use Rattle.std.specs.Str.{bytes_eq}
use Rattle.edge_io.specs.declared.plan.Plan.{Plan}

-- a name, and the octets that it holds
pub record Holding : Type 0 where
  pub name : List ℕ
  pub octets : List ℕ

-- the names to which octets were added, in the order in which they came, and the plan of failures
pub record KeptOuts : Type 0 where
  pub files : List Holding
  pub plan : Plan

abbrev pub has_name : List ℕ → Holding → Bool
has_name name f = bytes_eq f.name name

abbrev pub octets_of : Option Holding → List ℕ
octets_of None = []
octets_of (Some f) = f.octets

-- what a name holds: nothing, where nothing was added to it
abbrev pub held_among : List Holding → List ℕ → List ℕ
held_among files name = octets_of (find (has_name name) files)

abbrev pub held_by : KeptOuts → List ℕ → List ℕ
held_by outs name = held_among outs.files name
