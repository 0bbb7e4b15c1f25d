-- What a report is asked of, where it is told.
use Rattle.std.specs.Prelude.{ℕ, ◌≤◌, List, length, Option, IfOk, IfSome}
use Rattle.edge_io.specs.File.{File}
use Rattle.roster_text.specs.Roster.{Told, roster, ticks_of}
use Rattle.desk_run.specs.Whole.{Given}
use Rattle.session_edge.specs.Given.{IfRoster}

-- what a roster, and a capture of these octets, give a session
abbrev pub given_by : Told → List ℕ → Given
given_by told bytes = record { plan = told.timed; ticks = ticks_of told.end; bytes = bytes }

-- where the words name a roster of a lawful length without a bad line, and roster and capture are told, it is so of what the session is
-- given
abbrev pub IfSession : Option (List ℕ) → (List ℕ → File) → Option (List ℕ) → (Given → Type 0) → Type 0
IfSession name file dump P =
    IfRoster name file (λ text. length text ≤ 1048576 → IfOk (roster text) (λ told. IfSome dump (λ bytes. P (given_by told bytes))))
