-- What is answered to a text, and what every roster is.
use Rattle.std.specs.Prelude.{◌≡◌, ◌≤◌, Result, Ok, Err}
use Rattle.roster_text.specs.declared.faults.RosterError.{RosterError}
use Rattle.roster_text.specs.declared.faults.RosterError.TheVariants.{Bad, Memory}
use Rattle.roster_text.specs.Places.{latest_end}
use Rattle.roster_text.specs.Roster.{Told, Fault, IsRoster}

-- what every roster is: what some text spells, with an end in time
pub record IsKept (told : Told) : Type 0 where
  pub spelled : IsRoster told
  pub short : told.end ≤ latest_end

-- the answer to a text that means this, unless memory ran out
abbrev pub Answers : Result Told RosterError → Result Told Fault → Type 0
Answers (Ok told) meant = meant ≡ Ok told
Answers (Err (Bad line kind)) meant = meant ≡ Err (record { line = line; kind = kind })
Answers (Err Memory) meant = Unit {0}
