use Rattle.std.proofs.Common.{subst, MatchOption}
use Rattle.triple_table.specs.Rows.{Rows, IsNewTriple, IsRowOf}
use Rattle.triple_table.proofs.Places.{found}
use Rattle.triple_table.proofs.Table.find.Goals as goal

pub returns : goal.returns
returns c =
    let r = c.get_index_of.result in
    let t = c.args.triple.now in
    let P : Rows → Type 0 = λ v. MatchOption r (IsNewTriple v.rows t) (λ at. IsRowOf v.rows at t) in
    subst P c.self.view_is
    (found c.self.inside.triples.keys c.self.inside.slots.items t r c.self.invariant.pairs c.get_index_of.ensures.index c.get_index_of.ensures.found)
