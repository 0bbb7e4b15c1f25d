-- What stands on the error stream after a call.
use Rattle.std.specs.Prelude.{◌≡◌, ℕ, ◌⊎◌, List, Option}
use Rattle.std.specs.List.{AllZip}
use Rattle.edge_io.specs.File.{File}
use Rattle.edge_io.specs.Told.{Grows}
use Rattle.program_edge.specs.Report.{Tells, TellsAfter}
use Rattle.rooms_run.specs.declared.ends.RoomEnd.{RoomEnd}
use Rattle.rooms_run.specs.declared.status.RoomsStatus.{RoomsStatus}
use Rattle.rooms_run.specs.declared.status.RoomsStatus.TheVariants.{Done, WriteFault, Memory}
use Rattle.rooms_run.specs.Ends.{given_to, end_of}
use Rattle.rooms_run.specs.Starting.{IfRoom, IfListed}
use Rattle.rooms_run.specs.Texts.{line_of, rooms_text}

-- where the list is told, so its rooms end, in its order, each by its own roster and capture
abbrev pub AreEnds : Option (List ℕ) → (List ℕ → File) → List RoomEnd → Type 0
AreEnds name file ends =
    IfListed name file (λ list. AllZip (λ n end. IfRoom file n (λ text bytes. end ≡ end_of (given_to text bytes))) list ends)

module _ (are : List RoomEnd → Type 0) where
  -- a front of the rooms' lines, which couldn't be written, and then the status's own line
  abbrev pub TellsCut : Option (List ℕ) → Option (List ℕ) → List ℕ → Type 0 → Type 0
  TellsCut old new line rose = (ends : List RoomEnd) × are ends × TellsAfter old new (rooms_text 1 ends) line rose × rose

  -- by the status: the line of each room; or the status's own line, before which a front of the rooms' lines stands where those
  -- couldn't be written
  abbrev pub Reported : RoomsStatus → Option (List ℕ) → Option (List ℕ) → (rose : Type 0) → Type 0
  Reported Done old new rose = (ends : List RoomEnd) × are ends × Grows old new (rooms_text 1 ends)
  Reported WriteFault old new rose = Tells old new (line_of WriteFault) rose ⊎ TellsCut old new (line_of WriteFault) rose
  Reported Memory old new rose = Tells old new (line_of Memory) rose ⊎ TellsCut old new (line_of Memory) rose
  Reported status old new rose = Tells old new (line_of status) rose
