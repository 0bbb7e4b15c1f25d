-- What a call is given, where it is told.
use Rattle.std.specs.Prelude.{ℕ, ◌<◌, ◌⊎◌, List, length, Option, Some, None, IsErr}
use Rattle.edge_io.specs.File.{File, untold, missing, content}
use Rattle.roster_text.specs.Roster.{roster}

-- where the content is told, it is so
abbrev pub IfContent : File → (List ℕ → Type 0) → Type 0
IfContent untold P = Unit {0}
IfContent missing P = Unit {0}
IfContent (content held) P = P held

-- where the words name a roster and the shelf tells its content, it is so
abbrev pub IfRoster : Option (List ℕ) → (List ℕ → File) → (List ℕ → Type 0) → Type 0
IfRoster None file P = Unit {0}
IfRoster (Some name) file P = IfContent (file name) P

-- a text that is too long for a roster, or has a bad line
abbrev pub IsNoRoster : List ℕ → Type 0
IsNoRoster text = (1048576 < length text) ⊎ IsErr (roster text)
