-- A room at its place, before its session is run and after it.
use Rattle.std.specs.Prelude.{◌≡◌, ℕ, ◌<◌, List, [], Some, Result, Ok, Err}
use Rattle.atomic_table.specs.Seated.{TableId}
use Rattle.book_lock.specs.Known.{Known}
use Rattle.conference_spec.specs.declared.Entry.{Entry}
use Rattle.tick_core.specs.Locking.{Parts}
use Rattle.desk_run.specs.Whole.{Given}
use Rattle.desk_shared.specs.Ended.{HasEnded}
use Rattle.desk_shared.specs.Shared.{IsOver}
use Rattle.roster_desk.specs.Serving.{Begins}
use Rattle.roster_desk.specs.declared.serving.RosterDesk.{RosterDesk}
use Rattle.rooms_run.specs.declared.ends.RoomEnd.{RoomEnd}
use Rattle.rooms_run.specs.declared.room.Room.{Room}
use Rattle.rooms_run.specs.declared.room.Seat.{Seat}
use Rattle.rooms_run.specs.declared.room.Seat.TheVariants.{Ends, Runs}

module _ {L C : Type 0} (known : C → Known Entry Parts) (lock : L → TableId) where
  -- it is to run the session that is given this
  pub record IsSeated (given : Given) (r : Room L RosterDesk C) : Type 0 where
    pub begins : Begins r.desk []
    pub plan_is : r.desk.plan.timed ≡ given.plan
    pub ticks_is : r.ticks ≡ given.ticks
    pub short : given.ticks < 4320001
    pub dump_is : r.dump ≡ given.bytes
    pub out_is : r.out.octets ≡ []
    pub seen_is : (known r.conference).view.seen ≡ []
    pub home_is : (known r.conference).home ≡ lock r.lock

  abbrev pub SeatedFor : Result Given RoomEnd → Seat L RosterDesk C → Type 0
  SeatedFor (Err end) s = s ≡ Ends end
  SeatedFor (Ok given) (Ends end) = ⊥
  SeatedFor (Ok given) (Runs r) = IsSeated given r

  -- it has run it, whatever ended it
  pub record IsRun (given : Given) (r : Room L RosterDesk C) : Type 0 where
    pub ended : HasEnded (record {
      plan = given.plan;
      ticks = given.ticks;
      bytes = Some given.bytes;
      left = Some r.dump;
      old = Some [];
      new = Some r.out.octets;
      reads = (0, 0);
      writes = (0, 0);
    })
        (λ h. Begins r.desk h) (λ f. IsOver (known r.conference).view.seen f given.ticks) r.end
    pub ticks_is : r.ticks ≡ given.ticks
    pub short : given.ticks < 4320001
    pub home_is : (known r.conference).home ≡ lock r.lock

  abbrev pub RunFor : Result Given RoomEnd → Seat L RosterDesk C → Type 0
  RunFor (Err end) s = s ≡ Ends end
  RunFor (Ok given) (Ends end) = ⊥
  RunFor (Ok given) (Runs r) = IsRun given r
