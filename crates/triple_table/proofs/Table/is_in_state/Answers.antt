use Rattle.std.proofs.Common.{◌≡◌, sym, subst, ◌∙◌, IfSome}
use Rattle.std.specs.Prelude.{slice_get}
use Rattle.conference_spec.proofs.Equal.{state-decides}
use Rattle.triple_table.specs.Rows.{Rows}
use Rattle.triple_table.specs.Inside.{row_of, rows_of}
use Rattle.triple_table.proofs.Places.{row-at, show-some}
use Rattle.triple_table.proofs.Table.is_in_state.Goals as goal

pub returns-in-Some : goal.returns-in-Some
returns-in-Some c same =
    let ts = c.self.inside.triples.keys in
    let ss = c.self.inside.slots.items in
    let t = c.in-Some.triple.now in
    let same_state = (state-decides t.state c.args.state.now).0 (sym c.eq.ensures ∙ same) in
    let r = row-at ts ss c.args.at t c.self.invariant.pairs (sym c.in-Some.ensures.key) in
    let P : Rows → Type 0 = λ v. IfSome (slice_get v.rows c.args.at) (λ r. r.triple.state ≡ c.args.state.now) in
    subst P c.self.view_is
    (show-some (slice_get (rows_of ts ss) c.args.at) (row_of t r.0) (λ r. r.triple.state ≡ c.args.state.now) r.2 same_state)
