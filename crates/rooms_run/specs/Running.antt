-- How a room is run.
use Rattle.std.specs.Prelude.{◌≡◌, ℕ, ◌<◌, List, [], Some}
use Rattle.roster_text.specs.declared.commands.Timed.{Timed}
use Rattle.conference_spec.specs.Feed.{Feed}
use Rattle.session_spec.specs.Talkers.{Events}
use Rattle.desk_shared.specs.Ended.{Sides, HasEnded}
use Rattle.rooms_run.specs.declared.room.Room.{Room}

module _ {L D C : Type 0} where
  -- nothing has happened at the desk and in the conference
  abbrev pub Starts : (begins : D → Events → Type 0) (stands : C → Feed → ℕ → Type 0) → Room L D C → Type 0
  Starts begins stands r = begins r.desk [] × stands r.conference [] 0 × (r.ticks < 4320001)

  -- what the session was given, and what its ends hold before it and after it
  abbrev pub sides_of : (plan : D → List Timed) → Room L D C → Room L D C → Sides
  sides_of plan r s = record {
    plan = plan r.desk;
    ticks = r.ticks;
    bytes = Some r.dump;
    left = Some s.dump;
    old = Some r.out.octets;
    new = Some s.out.octets;
    reads = (0, 0);
    writes = (0, 0);
  }

  -- its session was run, and its conference ended
  pub record HasRun {X : Type 0} (plan : D → List Timed) (begins : D → Events → Type 0) (over : C → Feed → ℕ → Type 0) (post : C → X) (r s : Room L D C) : Type 0 where
    pub ended : HasEnded (sides_of plan r s) (λ h. begins s.desk h) (λ f. over s.conference f r.ticks) s.end
    pub post_is : post s.conference ≡ post r.conference
    pub lock_is : s.lock ≡ r.lock
    pub ticks_is : s.ticks ≡ r.ticks
