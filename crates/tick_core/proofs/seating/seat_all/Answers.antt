use Rattle.std.proofs.Common.{List, [], ◌∷◌, ◌++◌, length, take, refl, ap, sym, subst, ◌∙◌, arith, length-append, option_copied}
use Rattle.book_lists.specs.declared.seats.Rest.{Rest}
use Rattle.book_lists.specs.declared.seats.Seat.{Seat}
use Rattle.tick_core.specs.Opened.{SeatsClosed}
use Rattle.tick_core.proofs.Seats.{closed-none, closed-push, numbers-tickets, take-more}
use Rattle.tick_core.proofs.seating.seat_all.Goals as goal

pub first_seat-seat-requires-clause-room : goal.first_seat-seat-requires-clause-room
first_seat-seat-requires-clause-room c =
    let inv = c.loop-rest.invariant in
    let t = numbers-tickets c.args.number [] c.args.queue.now c.loop-rest.table.rows c.loop-rest.queue inv.closed.numbers in
    omega arith

pub loop-rest-init : goal.loop-rest-init
loop-rest-init c =
    let empty = c.requires.empty in
    record {
      closed = closed-none c.args.number c.args.talkers.now c.args.ticks.now c.args.queue.now c.args.seats.now.items c.args.table.now.rows empty.0 empty.1;
      as_many = ap length empty.0;
      capacity = refl;
      remembers = c.new-mixes.ensures.remembers c.args.talkers.now c.args.table.now.rows;
      table_room = omega arith;
    }

pub loop-rest-preserved : goal.loop-rest-preserved
loop-rest-preserved c =
    let i = c.loop-rest.rest-index in
    let present = c.args.present.now in
    let rest = c.rest-item.result in
    let inv = c.loop-rest.invariant in
    let queue = c.args.queue.now in
    let seats = c.loop-rest.seats.items in
    let seat = c.first_seat-seat.result in
    let rows = c.first_seat-seat.new.table.rows in
    let after = c.first_seat-seat.new.queue in
    let items = c.push_reserved.ensures.items in
    let pushed = closed-push c.args.number c.args.talkers.now c.args.ticks.now (take i present) rest (option_copied c.state_of-known.result) queue seats c.loop-rest.table.rows c.loop-rest.queue
    seat rows after c.state_of-known.ensures inv.closed c.first_seat-seat.ensures.first in
    let P : List Rest → List Seat → Type 0 = λ rs ss. SeatsClosed c.args.number c.args.talkers.now c.args.ticks.now rs queue ss rows after in
    let Q : List Seat → Type 0 = P (take i present ++ rest ∷ []) in
    let R : List Rest → Type 0 = λ rs. P rs c.push_reserved.new.self.items in
    record {
      closed = subst R (sym (take-more present i rest c.loop-rest-test.true c.rest-item.is)) (subst Q (sym items) pushed);
      as_many = (let l = ap length items ∙ length-append seats (seat ∷ []) in omega arith);
      capacity = c.push_reserved.ensures.capacity ∙ inv.capacity;
      remembers = c.first_seat-seat.ensures.remembers;
      table_room = omega arith;
    }
