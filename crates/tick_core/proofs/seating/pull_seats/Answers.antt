use Rattle.std.proofs.Common.{◌≡◌, ◌+◌, ◌<◌, ◌||◌, Bool, length, List, [], ◌∷◌, ◌++◌, take, refl, ap, sym, subst, ◌∙◌, arith, Option}
use Rattle.g726_bits.specs.State.{CodecState}
use Rattle.conference_spec.specs.Codec.{g726}
use Rattle.book_lists.specs.Levels.{newly_known}
use Rattle.book_lists.specs.declared.seats.Seat.{Seat}
use Rattle.tick_core.specs.Opened.{GivesRun, RoomFor, SeatsPulled}
use Rattle.tick_core.proofs.Seats.{one-more, same-item}
use Rattle.tick_core.proofs.Pulls.{pulled-none, pulled-push, room-left}
use Rattle.tick_core.proofs.seating.pull_seats.Goals as goal
use Rattle.tick_core.proofs.seating.pull_seats.Goals.{then-moved, else-moved}

pub pull_seat-done-requires : goal.pull_seat-done-requires
pull_seat-done-requires c =
    let inv = c.loop-place.invariant in
    let old = c.args.seats.now.items in
    let now = c.loop-place.seats.items in
    let place = c.loop-place.place in
    let s = c.index.result.now in
    let m = one-more old now inv.0 place s (omega arith) inv.1 inv.2.as_many c.index.ensures in
    let P : Option CodecState → Type 0 = λ o. RoomFor o c.loop-place.table c.loop-place.queue in
    record {
      remembers = inv.4;
      room = subst P (sym c.newly_known-known.ensures)
          (room-left c.args.number c.args.talkers.now c.args.older.now old now inv.0 place s c.args.table.now.rows c.args.queue.now c.loop-place.table c.loop-place.queue c.loop-place.moved
          m inv.2 (omega arith) c.requires.room c.requires.numbers);
    }

pub loop-place-init : goal.loop-place-init
loop-place-init c =
    let rows = c.args.table.now.rows in
    ([], refl, pulled-none c.args.number c.args.talkers.now c.args.older.now rows c.args.queue.now, omega arith, c.requires.remembers)

pub loop-place-preserved : goal.loop-place-preserved
loop-place-preserved c =
    let inv = c.loop-place.invariant in
    let old = c.args.seats.now.items in
    let now = c.loop-place.seats.items in
    let place = c.loop-place.place in
    let older = c.args.older.now in
    let s = c.index.result.now in
    let s' = c.pull_seat-done.new.seat in
    let rows = c.pull_seat-done.new.table.rows in
    let after = c.pull_seat-done.new.queue in
    let done = c.pull_seat-done.result in
    let moved = c.loop-place.moved in
    let m = one-more old now inv.0 place s (omega arith) inv.1 inv.2.as_many c.index.ensures in
    let is : (moved || done) ≡ c.if-moved.moved = elim c.if-moved.branch [
      | then-moved w ↦ ap (λ b. b || done) w.if-moved.true ∙ sym w.if-moved.true ∙ sym w.moved-is
      | else-moved w ↦ ap (λ b. b || done) w.if-moved.false ∙ sym w.moved-is
    ] in
    let s0 = c.index_mut.result.now in
    let lt : place < length old = omega arith in
    let same : s0 ≡ s = same-item old now inv.0 place s0 s (one-more old now inv.0 place s0 lt inv.1 inv.2.as_many c.index_mut.ensures.value) m in
    let K : Option CodecState → Type 0 = λ o. GivesRun c.args.number c.args.talkers.now o s0 c.loop-place.table.rows c.loop-place.queue s' rows after done in
    let S : Seat → Type 0 = λ x. GivesRun c.args.number c.args.talkers.now (newly_known g726 older s) x c.loop-place.table.rows c.loop-place.queue s' rows after done in
    let gives : S s = subst S same (subst K c.newly_known-known.ensures c.pull_seat-done.ensures.gives) in
    let pushed = pulled-push c.args.number c.args.talkers.now older (take place old) c.args.table.now.rows c.args.queue.now inv.0 c.loop-place.table.rows c.loop-place.queue moved
    s s' rows after done inv.2 gives in
    let P : List Seat → Bool → Type 0 = λ ss b. SeatsPulled c.args.number c.args.talkers.now older ss c.args.table.now.rows c.args.queue.now (inv.0 ++ s' ∷ []) rows after b in
    let Q : List Seat → Type 0 = λ ss. P ss (moved || done) in
    (inv.0 ++ s' ∷ [], m.put s', subst (P (take (place + 1) old)) is (subst Q (sym m.first) pushed), omega arith, c.pull_seat-done.ensures.remembers)
