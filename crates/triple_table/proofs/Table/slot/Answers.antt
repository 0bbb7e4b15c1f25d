use Rattle.std.proofs.Common.{◌<◌, length, ap, subst, arith, refl}
use Rattle.std.proofs.lemmas.Option.{slice_get_read}
use Rattle.triple_table.specs.Rows.{Rows}
use Rattle.triple_table.specs.Inside.{IsSlotOf}
use Rattle.triple_table.proofs.Places.{length-rows, slot-there}
use Rattle.triple_table.proofs.Table.slot.Goals as goal

pub index-requires : goal.index-requires
index-requires c =
    let fits = c.self.invariant in
    let e = length-rows c.self.inside.triples.keys c.self.inside.slots.items fits.pairs in
    let v = ap (λ v. length v.rows) c.self.view_is in
    let n = fits.slots_len in
    omega (arith, c.requires)

pub returns : goal.returns
returns c =
    let fits = c.self.invariant in
    let ts = c.self.inside.triples.keys in
    let ss = c.self.inside.slots.items in
    let e = length-rows ts ss fits.pairs in
    let v = ap (λ v. length v.rows) c.self.view_is in
    let lt : c.args.at < length ss = omega (arith, c.requires) in
    let P : Rows → Type 0 = λ v. IsSlotOf v.rows c.args.at c.index.result.now in
    subst P c.self.view_is (slot-there ts ss c.args.at c.index.result.now fits.fits (slice_get_read ss (length ss) c.args.at c.index.result.now refl lt c.index.ensures))
