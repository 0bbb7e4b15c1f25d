use Rattle.std.proofs.Common.{◌≡◌, ◌≤◌, length, take, vec_capacity}
use Rattle.tick_core.specs.Opened.{SeatsClosed}
use Rattle.tick_core.specs.Hearing.{Remembers}
use Rattle.tick_core.proofs.seating.seat_all.Given as goal

-- the first listeners have their seats
abbrev pub invariant-loop-rest : goal.invariant-loop-rest
invariant-loop-rest l = record {
  closed : SeatsClosed l.number l.talkers l.ticks (take l.rest-index l.present) l.fn.queue l.seats.items l.table.rows l.queue;
  as_many : length l.seats.items ≡ l.rest-index;
  capacity : vec_capacity l.seats ≡ vec_capacity l.fn.seats;
  remembers : Remembers l.talkers l.table.rows l.mixes;
  table_room : l.fn.table.room ≤ l.table.room;
}
