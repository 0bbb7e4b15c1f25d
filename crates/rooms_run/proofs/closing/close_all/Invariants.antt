use Rattle.std.proofs.Common.{◌≡◌, ◌++◌, List, All, Result, reverse, vec_len}
use Rattle.std.specs.List.{AllZip}
use Rattle.desk_run.specs.Whole.{Given}
use Rattle.rooms_run.specs.declared.ends.RoomEnd.{RoomEnd}
use Rattle.rooms_run.specs.Seated.{RunFor}
use Rattle.rooms_run.specs.Outcomes.{Comes}
use Rattle.rooms_run.proofs.closing.close_all.Given as goal

abbrev pub invariant-rooms : goal.invariant-rooms
invariant-rooms g l = record {
  run : All (λ s. (gives : Result Given RoomEnd) × RunFor (λ c. c.desk) (λ k. k.now) gives s) l.seats.items;
  done : (done : List _) × (l.fn.seats.items ≡ l.seats.items ++ reverse done)
      × AllZip (λ s o. (gives : Result Given RoomEnd) → RunFor (λ c. c.desk) (λ k. k.now) gives s → Comes gives o) done l.outcomes.items;
}

abbrev pub decreases-rooms : goal.decreases-rooms
decreases-rooms g l = vec_len l.seats
