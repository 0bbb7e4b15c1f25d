-- What stands on a program's error stream after a line was tried.
use Rattle.std.specs.Prelude.{ℕ, ◌⊎◌, List, Option}
use Rattle.edge_io.specs.Told.{Grows, GrowsByFront}

-- a line was tried once: it stands there whole, or a front of it where a count rose
abbrev pub Tells : Option (List ℕ) → Option (List ℕ) → List ℕ → Type 0 → Type 0
Tells old new line rose = Grows old new line ⊎ (GrowsByFront old new line × rose)

-- a front of one line, and then another line that was tried once
abbrev pub TellsAfter : Option (List ℕ) → Option (List ℕ) → List ℕ → List ℕ → Type 0 → Type 0
TellsAfter old new front line rose = (mid : Option (List ℕ)) × GrowsByFront old mid front × Tells mid new line rose
