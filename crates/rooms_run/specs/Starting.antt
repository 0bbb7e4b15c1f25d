-- What a room begins with.
use Rattle.std.specs.Prelude.{◌≡◌, ℕ, ◌<◌, ◌≤◌, List, length, Option, None, Some, Result, Ok, Err, IfOk, IsOk}
use Rattle.edge_io.specs.File.{File}
use Rattle.roster_text.specs.Roster.{ticks_of}
use Rattle.session_edge.specs.Given.{IfContent, IfRoster as IfFile}
use Rattle.room_pool.specs.Listed.{room_list}
use Rattle.room_pool.specs.Named.{Named}
use Rattle.desk_run.specs.Whole.{Given}
use Rattle.rooms_run.specs.declared.ends.RoomEnd.{RoomEnd}
use Rattle.rooms_run.specs.declared.start.Start.{Start}
use Rattle.rooms_run.specs.declared.start.Start.TheVariants.{Ends, Runs}

-- what it gives a session, or the end of a room that has none
abbrev pub start_gives : Start → Result Given RoomEnd
start_gives (Ends end) = Err end
start_gives (Runs roster dump) = Ok (record { plan = roster.timed; ticks = ticks_of roster.end; bytes = dump })

-- a content was taken whole, or is longer than this
abbrev pub TakenUpTo : ℕ → List ℕ → Option (List ℕ) → Type 0
TakenUpTo limit held None = limit < length held
TakenUpTo limit held (Some octets) = (octets ≡ held) × (length held ≤ limit)

-- where the shelf tells the roster and the capture of a room, it is so of them
abbrev pub IfRoom : (List ℕ → File) → Named → (List ℕ → List ℕ → Type 0) → Type 0
IfRoom file n P = IfContent (file n.roster) (λ text. IfContent (file n.dump) (λ bytes. P text bytes))

-- where the words name a list of a lawful length without a bad line, and the shelf tells it, it is so of its rooms
abbrev pub IfListed : Option (List ℕ) → (List ℕ → File) → (List Named → Type 0) → Type 0
IfListed name file P = IfFile name file (λ text. length text ≤ 65536 → IfOk (room_list text) P)

-- where the words name a list and the shelf tells it, it is of a lawful length and has no bad line
abbrev pub IsGoodList : Option (List ℕ) → (List ℕ → File) → Type 0
IsGoodList name file = IfFile name file (λ text. (length text ≤ 65536) × IsOk (room_list text))

-- and here its first bad line is this
abbrev pub IsBadAt : Option (List ℕ) → (List ℕ → File) → ℕ → Type 0
IsBadAt name file line = IfFile name file (λ text. (length text ≤ 65536) × (room_list text ≡ Err line))

-- and here it is longer than lists may be
abbrev pub IsLongList : Option (List ℕ) → (List ℕ → File) → Type 0
IsLongList name file = IfFile name file (λ text. 65536 < length text)
