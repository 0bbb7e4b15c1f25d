-- What a reader knows after some lines, and what its calls answer.
use Rattle.std.specs.Prelude.{◌≡◌, ℕ, ◌≤◌, List, reverse, Option, None, Some, Ok, Err, IfSome}
use Rattle.roster_text.specs.declared.reader.Reader.{Reader}
use Rattle.roster_text.specs.declared.faults.RosterKind.{RosterKind}
use Rattle.roster_text.specs.Places.{latest, latest_end}
use Rattle.roster_text.specs.Roster.{Known, line_step}
use Rattle.roster_text.specs.Tables.{Keeps}

-- what a reader knows
abbrev pub known_of : Reader → Known
known_of reader = record { past = reverse reader.timed.items; end = reader.end }

-- a reader's tables and its time are those of the commands that it keeps
pub record Stands (reader : Reader) : Type 0 where
  pub keeps : Keeps reader.room (reverse reader.timed.items)
  pub short : IfSome reader.end (λ end. end ≤ latest_end)
  pub newest : reader.latest ≡ latest (reverse reader.timed.items)

-- a line of these words leaves a reader so, or has this fault
abbrev pub Steps : Reader → Reader → List (List ℕ) → Option RosterKind → Type 0
Steps old new words None = (line_step (known_of old) words ≡ Ok (known_of new)) × Stands new
Steps old new words (Some kind) = line_step (known_of old) words ≡ Err kind
