use Rattle.std.proofs.Common.{◌≡◌, ℕ, ◌-◌, inl, inr, sym, ap, ◌∙◌, subst, arith}
use Rattle.std.specs.Prelude.{slice_get, Some, None}
use Rattle.book_feed.specs.Logged.{closed_in}
use Rattle.book_lists.specs.Levels.{Level}
use Rattle.tick_core.specs.Held.{Held}
use Rattle.tick_core.specs.Opened.{IsOutAt}
use Rattle.tick_core.specs.Steps.{FindsOut}
use Rattle.tick_core.proofs.Places.{same-level}
use Rattle.tick_core.proofs.Holding.{outside-held, no-row-held, open-at, within-at}
use Rattle.tick_core.proofs.book.Book.find_out.Goals.{then-tick-collected-via-then-tick-collected, then-tick-collected-via-else-tick-collected+then-tick-closed}
use Rattle.tick_core.proofs.book.Book.find_out.Goals as goal

pub returns-then-tick-collected : goal.returns-then-tick-collected
returns-then-tick-collected c core st =
    let d : Held = record { number = c.args.number; task = record { tick = c.args.tick; triple = c.args.triple.now } } in
    let e = c.collected.ensures in
    outside-held c.args.self.now core d st (elim c.then-tick-collected.branch [
      | then-tick-collected-via-then-tick-collected w ↦ (let lt = w.if-tick-collected.true in inl (omega arith))
      | then-tick-collected-via-else-tick-collected+then-tick-closed w ↦ (let le = w.if-tick-closed.true in let f = w.closed.ensures in inr (omega arith))
    ])

pub index-requires : goal.index-requires
index-requires c =
    let b = c.args.self.now in
    let e = c.collected.ensures in
    let f = c.closed.ensures in
    let le = c.if-tick-collected.false in
    let lt = c.if-tick-closed.false in
    let a = open-at b c.requires.0 c.args.tick c.requires.1 (omega arith) (omega arith) in
    let w = within-at b c.args.tick c.place_of-place.result a c.place_of-place.ensures in
    let k = b.open_ticks.ok.0 in
    omega arith

pub returns-in_err-at : goal.returns-in_err-at
returns-in_err-at c =
    let b = c.args.self.now in
    let d : Held = record { number = c.args.number; task = record { tick = c.args.tick; triple = c.args.triple.now } } in
    let e = c.collected.ensures in
    let f = c.closed.ensures in
    let le = c.if-tick-collected.false in
    let lt = c.if-tick-closed.false in
    subst (FindsOut b d) (sym c.from_residual.ensures)
    (λ core st.
    let a = open-at b core c.args.tick st (omega arith) (omega arith) in
    let now = c.index.result.now in
    let same : now ≡ a.level = same-level b.open_ticks.items c.place_of-place.result (closed_in b.log.feed - 1 - c.args.tick) a.level now c.place_of-place.ensures a.there c.index.ensures in
    no-row-held b core d (closed_in b.log.feed - 1 - c.args.tick) a.level st a.there a.number
    (subst (λ (v : Level). IsOutAt v c.args.number c.args.triple.now None) same c.in_err-at.ensures))

pub returns : goal.returns
returns c =
    let b = c.args.self.now in
    let e = c.collected.ensures in
    let f = c.closed.ensures in
    let le = c.if-tick-collected.false in
    let lt = c.if-tick-closed.false in
    let a = open-at b c.requires.0 c.args.tick c.requires.1 (omega arith) (omega arith) in
    let now = c.index.result.now in
    let same : now ≡ a.level = same-level b.open_ticks.items c.place_of-place.result (closed_in b.log.feed - 1 - c.args.tick) a.level now c.place_of-place.ensures a.there c.index.ensures in
    let row = c.in_ok-at.ensures in
    record {
      level = now;
      there = ap (λ (k : ℕ). slice_get b.open_ticks.items k) c.place_of-place.ensures ∙ (a.there ∙ ap Some (sym same));
      tick = ap (λ (v : Level). v.number) same ∙ a.number;
      row = row.0;
      run = row.1;
      number = row.2;
      triple = row.3;
      stage = row.4;
    }
