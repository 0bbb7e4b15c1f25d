use Rattle.std.proofs.Common.{sym, subst, ◌∙◌}
use Rattle.conference_spec.proofs.Equal.{triple-decides}
use Rattle.triple_table.specs.Rows.{Rows, IsRowOf}
use Rattle.triple_table.specs.Inside.{row_of}
use Rattle.triple_table.proofs.Places.{row-at}
use Rattle.triple_table.proofs.Table.is_at.Goals as goal

pub returns-in-Some : goal.returns-in-Some
returns-in-Some c same =
    let t = c.in-Some.there.now in
    let r = row-at c.self.inside.triples.keys c.self.inside.slots.items c.args.at t c.self.invariant.pairs (sym c.in-Some.ensures.key) in
    let P : Rows → Type 0 = λ v. IsRowOf v.rows c.args.at c.args.triple.now in
    subst P c.self.view_is (record { row = row_of t r.0; there = r.2; same = (triple-decides t c.args.triple.now).0 (sym c.eq.ensures ∙ same) })
