-- What becomes of a room.
use Rattle.std.specs.Prelude.{◌≡◌, ℕ, List, Result}
use Rattle.edge_io.specs.File.{File}
use Rattle.desk_run.specs.Whole.{Given}
use Rattle.rooms_run.specs.declared.ends.RoomEnd.{RoomEnd}
use Rattle.rooms_run.specs.declared.closing.Outcome.{Outcome}
use Rattle.room_pool.specs.Named.{Named}
use Rattle.rooms_run.specs.Ends.{given_to, end_of, text_of}
use Rattle.rooms_run.specs.Starting.{IfRoom}

-- it ended as what it was given says, and its answer is what its session can write
pub record Comes (gives : Result Given RoomEnd) (o : Outcome) : Type 0 where
  pub end_is : o.end ≡ end_of gives
  pub text_is : o.out.octets ≡ text_of gives

-- where the shelf tells its roster and its capture, a room came to what they give
abbrev pub CameFor : (List ℕ → File) → Named → Outcome → Type 0
CameFor file n o = IfRoom file n (λ text bytes. Comes (given_to text bytes) o)
