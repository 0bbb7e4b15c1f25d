use Rattle.std.proofs.Common.{◌≡◌, ◌<◌, ◌++◌, ℕ, List, All, reverse, vec_len}
use Rattle.std.specs.List.{AllZip}
use Rattle.rooms_run.specs.declared.start.Start.{Start}
use Rattle.rooms_run.specs.Opening.{IsKeyed}
use Rattle.rooms_run.specs.Starting.{start_gives}
use Rattle.rooms_run.specs.Seated.{SeatedFor}
use Rattle.rooms_run.proofs.seating.seat_all.Given as goal

abbrev pub invariant-rooms : goal.invariant-rooms
invariant-rooms g l = record {
  keyed : (n : ℕ) × (n < 65536) × All (IsKeyed n) l.keyed.items;
  even : vec_len l.keyed ≡ vec_len l.starts;
  done : (done : List Start) × (l.fn.starts.items ≡ l.starts.items ++ reverse done)
      × AllZip (λ start seat. SeatedFor (λ c. c.desk) (λ k. k.now) (start_gives start) seat) done l.seats.items;
}

abbrev pub decreases-rooms : goal.decreases-rooms
decreases-rooms g l = vec_len l.starts
