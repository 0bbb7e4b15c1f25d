-- How rooms are run at once.
use Rattle.std.specs.Prelude.{◌≡◌, ℕ, ◌<◌, List, length}
use Rattle.std.specs.List.{slice_index_or}
use Rattle.roster_text.specs.declared.commands.Timed.{Timed}
use Rattle.conference_spec.specs.Feed.{Feed}
use Rattle.session_spec.specs.Talkers.{Events}
use Rattle.rooms_run.specs.declared.room.Room.{Room}
use Rattle.rooms_run.specs.declared.room.Seat.{Seat}
use Rattle.rooms_run.specs.declared.room.Seat.TheVariants.{Ends, Runs}
use Rattle.rooms_run.specs.Running.{Starts, HasRun}

module _ {L D C : Type 0} where
  -- nothing has happened in the room, where it has a session
  abbrev pub IsReady : (begins : D → Events → Type 0) (stands : C → Feed → ℕ → Type 0) → Seat L D C → Type 0
  IsReady begins stands (Ends end) = Unit {0}
  IsReady begins stands (Runs r) = Starts begins stands r

  module _ {X : Type 0} (plan : D → List Timed) (begins : D → Events → Type 0) (over : C → Feed → ℕ → Type 0) (post : C → X) where
    -- its session was run
    abbrev pub HasRunAt : Seat L D C → Seat L D C → Type 0
    HasRunAt (Ends end) s = s ≡ Ends end
    HasRunAt (Runs r) (Ends end) = ⊥
    HasRunAt (Runs r) (Runs s) = HasRun plan begins over post r s

-- each went from the one to the other
pub record EachRan {S : Type 0} (ran : S → S → Type 0) (old new : List S) : Type 0 where
  pub each : (i : ℕ) (d : S) → i < length old → ran (slice_index_or old i d) (slice_index_or new i d)
  pub count : length new ≡ length old
