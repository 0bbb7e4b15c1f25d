use Rattle.std.proofs.Common.{◌≡◌, length, sym, ap, subst, arith, refl, IfSome}
use Rattle.std.specs.Prelude.{slice_get}
use Rattle.std.proofs.lemmas.Bool.{false≢true}
use Rattle.triple_table.specs.Rows.{Rows}
use Rattle.triple_table.specs.Inside.{row_of, rows_of}
use Rattle.triple_table.proofs.Places.{length-rows, row-at, show-some}
use Rattle.triple_table.proofs.Table.triple_at.Goals as goal

pub unreachable-requires : goal.unreachable-requires
unreachable-requires c =
    let fits = c.self.invariant in
    let e = length-rows c.self.inside.triples.keys c.self.inside.slots.items fits.pairs in
    let v = ap (λ v. length v.rows) c.self.view_is in
    let a = fits.set_len in
    let b = fits.pairs in
    false≢true (c.in_default.ensures.found.1 (omega (arith, c.requires)))

pub returns : goal.returns
returns c =
    let fits = c.self.invariant in
    let ts = c.self.inside.triples.keys in
    let ss = c.self.inside.slots.items in
    let r = row-at ts ss c.args.at c.in-Some.triple.now fits.pairs (sym c.in-Some.ensures.key) in
    let P : Rows → Type 0 = λ v. IfSome (slice_get v.rows c.args.at) (λ r. c.in-Some.triple.now ≡ r.triple) in
    subst P c.self.view_is (show-some (slice_get (rows_of ts ss) c.args.at) (row_of c.in-Some.triple.now r.0) (λ r. c.in-Some.triple.now ≡ r.triple) r.2 refl)
