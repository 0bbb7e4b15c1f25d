-- Seats that take their state from the tick before.
use Rattle.std.proofs.Common.{◌≡◌, ℕ, ◌+◌, ◌≤◌, ◌<◌, ◌^◌, Bool, true, false, ◌||◌, List, [], ◌∷◌, ◌++◌, length, take, drop, refl, sym, ◌∙◌, ap, subst, arith, Option, Some, None, length-append}
use Rattle.std.proofs.lemmas.List.{take-append-drop}
use Rattle.std.specs.Prelude.{is_some, if◌then◌else◌, option_and_then}
use Rattle.std.specs.List.{AllZip}
use Rattle.std.proofs.lemmas.Bool.{false≢true}
use Rattle.g726_bits.specs.State.{CodecState}
use Rattle.talk_mix.specs.declared.ticks.Tick.{Tick}
use Rattle.triple_table.specs.Rows.{Row, Rows}
use Rattle.conference_spec.specs.Codec.{g726}
use Rattle.book_lists.specs.declared.seats.Seat.{Seat}
use Rattle.book_lists.specs.Levels.{Level, Placing, placed_for, placed_seats, newly_known, state_at, state_of_row, state_of_seat, triple_at, HasRunOf, TakesRun}
use Rattle.book_lists.proofs.Seating.{at-more, get-front, zip-map}
use Rattle.book_lists.proofs.Joining.{zip-push}
use Rattle.tick_core.specs.Queued.{Queued}
use Rattle.tick_core.specs.Opened.{RoomFor, GivesRun, SeatsPulled, unknown}
use Rattle.tick_core.proofs.Seats.{OneMore, numbers-none, numbers-more, numbers-tickets, numbers-issued, unknown-append, unknown-one}

pub placed_seats-push : (tick : Tick) (known : Seat → Option CodecState) (ss : List Seat) (s : Seat) (p : Placing)
    → placed_seats g726 tick known (ss ++ s ∷ []) p ≡ placed_for g726 tick s (known s) (placed_seats g726 tick known ss p)
placed_seats-push tick known [] s p = refl
placed_seats-push tick known (x ∷ ss) s p = placed_seats-push tick known ss s (placed_for g726 tick x (known x) p)

run-more : (tick : Tick) (rows more : List Row) (s s' : Seat) (known : Option CodecState) → HasRunOf tick rows s s' known
    → HasRunOf tick (rows ++ more) s s' known
run-more tick rows more s s' None h = h
run-more tick rows more s s' (Some st) h = (h.0, h.1, at-more rows more h.0 (triple_at tick s st) h.2)

pub takes-more : (tick : Tick) (known : Seat → Option CodecState) (rows more rows' : List Row) (s s' : Seat) → rows' ≡ rows ++ more
    → TakesRun tick known rows s s' → TakesRun tick known rows' s s'
takes-more tick known rows more rows' s s' e t =
    let P : List Row → Type 0 = λ rs. HasRunOf tick rs s s' (known s) in
    record {
      spec = t.spec;
      heard = t.heard;
      earlier = t.earlier;
      run = subst P (sym e) (run-more tick rows more s s' (known s) t.run);
    }

-- a run that isn't finished, with more rows after its own
quiet-run : (tick : Tick) (rows more : List Row) (s s' : Seat) (known : Option CodecState) → HasRunOf tick rows s s' known
    → (is_some known ≡ true → state_of_seat g726 rows s'.run ≡ None) → is_some known ≡ true → state_of_seat g726 (rows ++ more) s'.run ≡ None
quiet-run tick rows more s s' None h none is = absurd (false≢true is)
quiet-run tick rows more s s' (Some st) h none is =
    let at = h.0 in
    let row = h.2.row in
    let old : state_of_seat g726 rows s'.run ≡ state_of_row g726 row = ap (state_of_seat g726 rows) h.1 ∙ ap (option_and_then (state_of_row g726)) h.2.there in
    let new : state_of_seat g726 (rows ++ more) s'.run ≡ state_of_row g726 row =
    ap (state_of_seat g726 (rows ++ more)) h.1 ∙ ap (option_and_then (state_of_row g726)) (get-front rows more at row h.2.there) in
    new ∙ sym old ∙ none is

abbrev pub IsQuiet : (Seat → Option CodecState) → List Row → Seat → Seat → Type 0
IsQuiet known rows s s' = is_some (known s) ≡ true → state_of_seat g726 rows s'.run ≡ None

pub quiet-more : (tick : Tick) (known : Seat → Option CodecState) (rows more rows' : List Row) (ss ss' : List Seat) → rows' ≡ rows ++ more
    → AllZip (TakesRun tick known rows) ss ss' → AllZip (IsQuiet known rows) ss ss' → AllZip (IsQuiet known rows') ss ss'
quiet-more tick known rows more rows' [] [] e t z = tt
quiet-more tick known rows more rows' [] (y ∷ ys) e t z = absurd z
quiet-more tick known rows more rows' (x ∷ xs) [] e t z = absurd z
quiet-more tick known rows more rows' (x ∷ xs) (y ∷ ys) e t z =
    let P : List Row → Type 0 = λ rs. is_some (known x) ≡ true → state_of_seat g726 rs y.run ≡ None in
    (subst P (sym e) (quiet-run tick rows more x y (known x) t.0.run z.0), quiet-more tick known rows more rows' xs ys e t.1 z.1)

-- there is room where each seat without a run has room
pub room-for : (older : Level) (s : Seat) (t : Rows) (q : Queued)
    → (s.run ≡ None → (length t.rows < t.room) × (length q.tickets < q.room) × (q.issued < 2 ^ 62)) → RoomFor (newly_known g726 older s) t q
room-for older s t q h =
    let from = option_and_then (state_at g726 older) s.earlier in
    let room : (length t.rows < t.room) × (length q.tickets < q.room) × (q.issued < 2 ^ 62) → (o : Option CodecState) → RoomFor o t q = λ r. elim [ None ↦ tt | Some st ↦ r ] in
    let at : (o : Option ℕ) → (o ≡ None → (length t.rows < t.room) × (length q.tickets < q.room) × (q.issued < 2 ^ 62)) → RoomFor (if is_some o then None else from) t q = elim [
      | None ↦ λ r. room (r refl) from
      | Some i ↦ λ r. tt
    ] in
    at s.run h

-- the seat at i may have its run where there is room for one for each seat without one
pub room-left : (k : ℕ) (tick : Tick) (older : Level) (old now front : List Seat) (i : ℕ) (s : Seat) (rows : List Row) (q : Queued) (t : Rows) (q' : Queued) (moved : Bool)
    → OneMore old now front i s → SeatsPulled k tick older (take i old) rows q front t.rows q' moved
    → length rows + unknown old ≤ t.room → length q.tickets + unknown old ≤ q.room → q.issued + unknown old ≤ 2 ^ 62 → RoomFor (newly_known g726 older s) t q'
room-left k tick older old now front i s rows q t q' moved m p rooms tickets numbers =
    room-for older s t q' (λ e.
    let a : unknown old ≡ unknown (take i old) + unknown (drop i old) = ap unknown (sym (take-append-drop i old)) ∙ unknown-append (take i old) (drop i old) in
    let b : unknown (drop i old) ≡ 1 + unknown (drop (i + 1) old) = ap unknown m.rest ∙ unknown-one s (drop (i + 1) old) e in
    let d = p.fits in
    let x = numbers-tickets k rows q t.rows q' p.numbers in
    let y = numbers-issued k rows q t.rows q' p.numbers in
    let r = p.numbers.room in
    (omega arith, omega arith, omega arith))

pub or-false_left : (a b : Bool) → (a || b) ≡ false → a ≡ false
or-false_left true b e = e
or-false_left false b e = refl

pub or-false_right : (a b : Bool) → (a || b) ≡ false → b ≡ false
or-false_right true b e = absurd (false≢true (sym e))
or-false_right false b e = e

-- none has been looked at
pub pulled-none : (k : ℕ) (tick : Tick) (older : Level) (rows : List Row) (q : Queued) → SeatsPulled k tick older [] rows q [] rows q false
pulled-none k tick older rows q = record {
  placing = refl;
  takes = tt;
  numbers = numbers-none k rows q;
  quiet = λ e. tt;
  fits = omega arith;
  as_many = refl;
}

-- one more has its run where its state is known
pub pulled-push : (k : ℕ) (tick : Tick) (older : Level) (ss : List Seat) (rows : List Row) (q : Queued) (ss' : List Seat) (rows' : List Row) (q' : Queued) (moved : Bool)
    (s s' : Seat) (rows'' : List Row) (q'' : Queued) (done : Bool)
    → SeatsPulled k tick older ss rows q ss' rows' q' moved → GivesRun k tick (newly_known g726 older s) s rows' q' s' rows'' q'' done
    → SeatsPulled k tick older (ss ++ s ∷ []) rows q (ss' ++ s' ∷ []) rows'' q'' (moved || done)
pulled-push k tick older ss rows q ss' rows' q' moved s s' rows'' q'' done p g =
    let known = newly_known g726 older in
    let start : Placing = record { rows = rows; issued = q.issued } in
    let more = g.numbers.more in
    record {
      placing = g.placing ∙ ap (placed_for g726 tick s (known s)) p.placing ∙ sym (placed_seats-push tick known ss s start);
      takes = zip-push (TakesRun tick known rows'') ss ss' s s'
          (zip-map (TakesRun tick known rows') (TakesRun tick known rows'') ss ss' (λ x y i t. takes-more tick known rows' more rows'' x y g.numbers.grown t) p.takes)
          (record { spec = g.takes.spec; heard = g.takes.heard; earlier = g.takes.earlier; run = g.takes.run });
      numbers = numbers-more k rows q rows' q' rows'' q'' p.numbers g.numbers;
      quiet = λ e. zip-push (IsQuiet known rows'') ss ss' s s'
          (quiet-more tick known rows' more rows'' ss ss' g.numbers.grown p.takes (p.quiet (or-false_left moved done e)))
          (g.quiet (or-false_right moved done e));
      fits = (
          let a = p.fits in
          let u = unknown-append ss (s ∷ []) in
          let u' = unknown-append ss' (s' ∷ []) in
          let grew = ap length g.numbers.grown ∙ length-append rows' more in
          let b : length rows'' + unknown (s' ∷ []) ≤ length rows' + unknown (s ∷ []) = gives-fits k tick older s rows' q' s' rows'' q'' done g in
          omega arith
          );
      as_many = (let a = length-append ss (s ∷ []) in let b = length-append ss' (s' ∷ []) in let c = p.as_many in omega arith);
    }
  where
    gives-fits : (k : ℕ) (tick : Tick) (older : Level) (s : Seat) (rows : List Row) (q : Queued) (s' : Seat) (rows' : List Row) (q' : Queued) (done : Bool)
        → GivesRun k tick (newly_known g726 older s) s rows q s' rows' q' done → length rows' + unknown (s' ∷ []) ≤ length rows + unknown (s ∷ [])
    gives-fits k tick older s rows q s' rows' q' done g =
        let none : newly_known g726 older s ≡ None → length rows' + unknown (s' ∷ []) ≤ length rows + unknown (s ∷ []) =
        λ e. (let a = ap length (g.same e).0 in let b = ap (λ x. unknown (x ∷ [])) (g.same e).1 in omega arith) in
        let some : s.run ≡ None → length rows' + unknown (s' ∷ []) ≤ length rows + 1 = g.fits in
        let from = option_and_then (state_at g726 older) s.earlier in
        let at : (o : Option ℕ) → ((if is_some o then None else from) ≡ None → length rows' + unknown (s' ∷ []) ≤ length rows + ((if is_some o then 0 else 1) + 0))
        → (o ≡ None → length rows' + unknown (s' ∷ []) ≤ length rows + 1) → length rows' + unknown (s' ∷ []) ≤ length rows + ((if is_some o then 0 else 1) + 0) = elim [
          | None ↦ λ p q. let r = q refl in omega arith
          | Some i ↦ λ p q. p refl
        ] in
        at s.run none some
