-- Which runs a Book holds out.
use Rattle.std.proofs.Common.{◌≡◌, ℕ, ◌-◌, ◌<◌, ◌≤◌, ◌⊎◌, inl, inr, false, List, ◌∷◌, ◌++◌, length, sym, ap, subst, arith}
use Rattle.std.specs.Prelude.{slice_get, Some, None}
use Rattle.std.proofs.lemmas.Bool.{cases_Bool}
use Rattle.std.proofs.lemmas.Option.{slice_get_within}
use Rattle.conference_spec.specs.declared.Task.{Task}
use Rattle.conference_spec.specs.Codec.{g726}
use Rattle.conference_spec.specs.Feed.{collects}
use Rattle.conference_spec.specs.Machine.{Core, holds_out}
use Rattle.conference_spec.proofs.Members.{In}
use Rattle.book_lists.specs.Levels.{Level, Opens, LevelsOnce, all_runs}
use Rattle.book_lists.proofs.Carrying.{run-below, split-at}
use Rattle.tick_core.specs.declared.book.Book.{Book}
use Rattle.tick_core.specs.Held.{Held}
use Rattle.tick_core.specs.Opened.{IsOutAt}
use Rattle.book_feed.specs.Logged.{closed_in, collected_in}
use Rattle.tick_core.specs.Standing.{StandsOn}
use Rattle.tick_core.proofs.Follows.{closed-is, collected-is}
use Rattle.tick_core.proofs.Places.{AtNumber, level-at, held-run, held-row, once-level_at}

-- no run of a tick that isn't open is out
pub outside-held : (b : Book) (c : Core) (d : Held) → StandsOn b c → (d.task.tick < collected_in b.log.feed) ⊎ (closed_in b.log.feed ≤ d.task.tick)
    → holds_out g726 c.runs d.number d.task ≡ false
outside-held b c d st out =
    elim (cases_Bool (holds_out g726 c.runs d.number d.task)) [
      | inl h ↦ (let r = held-run c.runs d.number d.task h in
          let in' = (st.carries.runs r.run).0 r.among in
          let below = run-below g726 (collects c.feed) c.runs b.open_ticks.items c.feed st.carries.opens r.run in' in
          let e = ap (λ (x : Task). x.tick) r.task in
          let f = collected-is st.feed in
          let g = closed-is st.feed in
          let lt = below.0 in
          let le = below.1 in
          absurd (elim out [ inl a ↦ omega arith | inr a ↦ omega arith ]))
      | inr h ↦ h
    ]

-- none is out that has no row at its tick
pub no-row-held : (b : Book) (c : Core) (d : Held) (place : ℕ) (v : Level) → StandsOn b c → slice_get b.open_ticks.items place ≡ Some v → v.number ≡ d.task.tick
    → IsOutAt v d.number d.task.triple None → holds_out g726 c.runs d.number d.task ≡ false
no-row-held b c d place v st there number none =
    elim (cases_Bool (holds_out g726 c.runs d.number d.task)) [
      | inl h ↦ (let r = held-run c.runs d.number d.task h in
          let s = split-at b.open_ticks.items place v there in
          let in' : In r.run (all_runs (s.front ++ v ∷ s.rest)) = subst (λ (vs : List Level). In r.run (all_runs vs)) s.whole ((st.carries.runs r.run).0 r.among) in
          let opens : Opens g726 (collects c.feed) c.runs (s.front ++ v ∷ s.rest) c.feed = subst (λ (vs : List Level). Opens g726 (collects c.feed) c.runs vs c.feed) s.whole st.carries.opens in
          let row = held-row (collects c.feed) c.runs s.front s.rest v c.feed opens d.number d.task r in' (sym number) in
          let once = once-level_at s.front s.rest v (subst LevelsOnce s.whole st.carries.once) in
          absurd (none once row.row row.at row.there row.number row.triple row.stage))
      | inr h ↦ h
    ]

-- the open tick of a number
pub open-at : (b : Book) (c : Core) (n : ℕ) → StandsOn b c → collected_in b.log.feed ≤ n → n < closed_in b.log.feed → AtNumber b.open_ticks.items (closed_in b.log.feed) n
open-at b c n st le lt =
    let f = collected-is st.feed in
    let g = closed-is st.feed in
    subst (λ (k : ℕ). AtNumber b.open_ticks.items k n) (sym (closed-is st.feed)) (level-at (collects c.feed) c.runs b.open_ticks.items c.feed st.carries.opens n (omega arith) (omega arith))

-- its place is within
pub within-at : (b : Book) (n place : ℕ) (a : AtNumber b.open_ticks.items (closed_in b.log.feed) n) → place ≡ closed_in b.log.feed - 1 - n
    → place < length b.open_ticks.items
within-at b n place a e = let w = slice_get_within b.open_ticks.items (closed_in b.log.feed - 1 - n) a.level a.there in omega arith
