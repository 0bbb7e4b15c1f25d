-- How the commands of a roster stand to one another.
use Rattle.std.specs.Prelude.{◌≡◌, ◌≤◌, List, [], ◌∷◌, reverse, None}
use Rattle.std.specs.List.{AllByRecursion}
use Rattle.roster_text.specs.declared.commands.Timed.{Timed}
use Rattle.roster_text.specs.Places.{misplaced}

-- no command's time is above that of one after it
abbrev pub Rises : List Timed → Type 0
Rises [] = Unit {0}
Rises (t ∷ ts) = AllByRecursion (λ u. t.at ≤ u.at) ts × Rises ts

-- each command may stand after those before it; the newest stands first
abbrev pub EachPlaced : List Timed → Type 0
EachPlaced [] = Unit {0}
EachPlaced (t ∷ past) = (misplaced past t.command ≡ None) × EachPlaced past

-- the commands of a roster: their times rise, and each may stand where it stands
pub record AreInOrder (timed : List Timed) : Type 0 where
  pub rises : Rises timed
  pub placed : EachPlaced (reverse timed)
