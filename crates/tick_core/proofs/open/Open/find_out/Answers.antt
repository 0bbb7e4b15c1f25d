use Rattle.std.proofs.Common.{◌≡◌, List, ap, sym, ◌∙◌}
use Rattle.std.specs.Prelude.{slice_get}
use Rattle.triple_table.specs.Rows.{Row}
use Rattle.book_lists.specs.Levels.{Level}
use Rattle.book_lists.proofs.Carrying.{one-row}
use Rattle.book_lists.proofs.Seating.{get-in}
use Rattle.tick_core.proofs.Runs.{some-row_stage, some-row_number}
use Rattle.tick_core.proofs.open.Open.find_out.Goals.{else-number-via-then-number+else-matches, in-Out, in_default, else-number-via-else-number}
use Rattle.tick_core.proofs.open.Open.find_out.Goals as goal

pub returns-else-number : goal.returns-else-number
returns-else-number c once r at there number triple stage =
    let rows = c.self.inside.table.rows in
    let e : rows ≡ c.args.self.now.rows = ap (λ (v : Level). v.rows) c.self.view_is in
    let i = c.in_ok-at.ensures in
    let there' = ap (λ (rs : List Row). slice_get rs c.in_ok-at.at) (sym e) ∙ i.there in
    let one : i.row ≡ r = one-row c.args.self.now.rows once i.row r (get-in c.args.self.now.rows c.in_ok-at.at i.row there') (get-in c.args.self.now.rows at r there) (i.same ∙ sym triple) in
    let n = some-row_number rows c.in_ok-at.at i.row c.number.result i.there c.number.ensures ∙ (ap (λ (q : Row). q.number) one ∙ number) in
    elim c.else-number.branch [
      | else-number-via-then-number+else-matches w ↦
          (let s = some-row_stage rows c.in_ok-at.at i.row w.stage.result i.there w.stage.ensures ∙ (ap (λ (q : Row). q.stage) one ∙ stage) in
          let f = w.if-matches.false in
          elim w.match-matches.branch [
            | in-Out w' ↦ (let t = w'.matches-is in cc)
            | in_default w' ↦ w'.in_default.not-Out s
          ])
      | else-number-via-else-number w ↦ (let f = w.if-number.false in absurd (f n))
    ]
