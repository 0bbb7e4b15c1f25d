use Rattle.std.proofs.Common.{◌≡◌, ◌*◌, ℕ, sym, subst, refl, arith, ap, ◌∙◌}
use Rattle.conference_spec.specs.Machine.{Core, begun}
use Rattle.tick_core.specs.declared.book.Book.{Book}
use Rattle.tick_core.specs.Standing.{Stands}
use Rattle.bench_book.specs.Ticks.{IsSettled, GoesOn, crowd}
use Rattle.bench_book.proofs.Steps.{goes-settled, if-ok}
use Rattle.bench_book.specs.declared.stops.Counts.{Counts}
use Rattle.bench_book.proofs.run.measure.Goals as goal
use Rattle.bench_book.proofs.run.measure.Goals.{in-Shared+in_ok-join_together-in-Shared, in-Apart+in_ok-join_apart-in-Apart}

seated : (c : goal.After-book-2-1) → (k : ℕ) × GoesOn c.args.listeners k c.new-book.result c.match-kind.book
seated c =
    let P = λ (b : Book). (k : ℕ) × GoesOn c.args.listeners k c.new-book.result b in
    elim c.match-kind.branch [
      | in-Shared+in_ok-join_together-in-Shared w ↦ subst P (sym w.book-is) (0, w.in_ok-join_together-in-Shared.ensures.joined)
      | in-Apart+in_ok-join_apart-in-Apart w ↦ subst P (sym w.book-is) w.in_ok-join_apart-in-Apart.ensures.joined
    ]

pub run_ticks-requires-clause-settled : goal.run_ticks-requires-clause-settled
run_ticks-requires-clause-settled c =
    let f = seated c in
    goes-settled c.args.listeners f.0 c.new-book.result c.match-kind.book (begun, c.new-book.ensures.begun, (record { open' = refl; collected = refl; all = tt })) f.1

seated_at_last : (c : goal.After-drop-book-10) → (k : ℕ) × GoesOn c.args.listeners k c.new-book.result c.match-kind.book
seated_at_last c =
    let P = λ (b : Book). (k : ℕ) × GoesOn c.args.listeners k c.new-book.result b in
    elim c.match-kind.branch [
      | in-Shared+in_ok-join_together-in-Shared w ↦ subst P (sym w.book-is) (0, w.in_ok-join_together-in-Shared.ensures.joined)
      | in-Apart+in_ok-join_apart-in-Apart w ↦ subst P (sym w.book-is) w.in_ok-join_apart-in-Apart.ensures.joined
    ]

pub returns : goal.returns
returns c =
    let p = (seated_at_last c).1 begun c.new-book.ensures.begun (record { open' = refl; collected = refl; all = tt }) in
    let n : crowd p.0 ≡ c.args.listeners = omega (arith, p.2.crowd') in
    record {
      packets = if-ok (λ (r : Counts). (k : Core) → Stands c.match-kind.book k → IsSettled k → r.packets ≡ c.args.ticks * crowd k)
          (λ (r : Counts). r.packets ≡ c.args.ticks * c.args.listeners) c.run_ticks.result
          (λ r each. each p.0 p.1 p.2.settled ∙ ap (λ (x : ℕ). c.args.ticks * x) n) c.run_ticks.ensures.packets;
    }
