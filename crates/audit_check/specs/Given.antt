-- What an audit is given, where it is told.
use Rattle.std.specs.Prelude.{ℕ, ◌≤◌, List, length, Option, IfOk, IfSome}
use Rattle.edge_io.specs.File.{File}
use Rattle.roster_text.specs.Roster.{Told, roster, ticks_of}
use Rattle.desk_run.specs.Whole.{Given}
use Rattle.session_edge.specs.Given.{IfRoster as IfFile}

-- where the words name a roster of a lawful length without a bad line, and the shelf tells it, it is so of the roster
abbrev pub IfRead : Option (List ℕ) → (List ℕ → File) → (Told → Type 0) → Type 0
IfRead name file P = IfFile name file (λ text. length text ≤ 1048576 → IfOk (roster text) P)

-- what a roster, and a capture of these octets, give a session
abbrev pub given_by : Told → List ℕ → Given
given_by told bytes = record { plan = told.timed; ticks = ticks_of told.end; bytes = bytes }

-- where they name such a roster and octets to be audited of a lawful length, and the capture is told, it is so of what the session is
-- given and of the octets
abbrev pub IfAudit : Option (List ℕ) → Option (List ℕ) → (List ℕ → File) → Option (List ℕ) → (Given → List ℕ → Type 0) → Type 0
IfAudit name other file dump P =
    IfRead name file (λ told. IfFile other file (λ out. length out ≤ 1073741824 → IfSome dump (λ bytes. P (given_by told bytes) out)))
