-- What a list knows after some lines, and what is answered to a text.
use Rattle.std.specs.Prelude.{◌≡◌, ℕ, Bool, true, false, List, Option, None, Some, Result, Ok, Err}
use Rattle.room_pool.specs.Named.{Named}
use Rattle.room_pool.specs.Listed.{line_step}
use Rattle.room_pool.specs.declared.names.LentNames.{LentNames}
use Rattle.room_pool.specs.declared.listing.ListError.{ListError}
use Rattle.room_pool.specs.declared.listing.ListError.TheVariants.{Bad, Memory}

-- what lent names say
abbrev pub told_by : LentNames → Named
told_by lent = record { roster = lent.roster.now; dump = lent.dump.now; out = lent.out.now }

-- a good line of these words leaves the rooms so, and a bad one isn't learned
abbrev pub Steps : List Named → List Named → List (List ℕ) → Bool → Type 0
Steps old new words true = line_step old words ≡ Some new
Steps old new words false = line_step old words ≡ None

-- the answer to a text that means this, unless memory ran out
abbrev pub Answers : Result (List Named) ListError → Result (List Named) ℕ → Type 0
Answers (Ok rooms) meant = meant ≡ Ok rooms
Answers (Err (Bad line)) meant = meant ≡ Err line
Answers (Err Memory) meant = Unit {0}
