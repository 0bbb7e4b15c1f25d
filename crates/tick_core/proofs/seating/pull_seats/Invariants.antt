use Rattle.std.proofs.Common.{◌≡◌, ◌≤◌, List, ◌++◌, take, drop}
use Rattle.book_lists.specs.declared.seats.Seat.{Seat}
use Rattle.tick_core.specs.Opened.{SeatsPulled}
use Rattle.tick_core.specs.Hearing.{Remembers}
use Rattle.tick_core.proofs.seating.pull_seats.Given as goal

-- the first seats have their runs, and the others are as they were
abbrev pub invariant-loop-place : goal.invariant-loop-place
invariant-loop-place l =
    (front : List Seat)
    × (l.seats.items ≡ front ++ drop l.place l.fn.seats.items)
    × SeatsPulled l.number l.talkers l.older (take l.place l.fn.seats.items) l.fn.table.rows l.fn.queue front l.table.rows l.queue l.moved
    × (l.fn.table.room ≤ l.table.room)
    × Remembers l.talkers l.table.rows l.mixes
