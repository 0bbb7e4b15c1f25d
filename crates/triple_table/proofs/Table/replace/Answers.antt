use Rattle.std.proofs.Common.{◌≡◌, ◌<◌, length, set, sym, ◌∙◌, ap, subst, arith, IfSome}
use Rattle.std.specs.Prelude.{slice_get}
use Rattle.triple_table.specs.Rows.{Rows, staged}
use Rattle.triple_table.specs.Inside.{Fits, stage_of, rows_of}
use Rattle.triple_table.proofs.Places.{length-rows, replaced}
use Rattle.triple_table.proofs.Table.replace.Goals as goal

pub replace_progress-requires : goal.replace_progress-requires
replace_progress-requires c =
    let fits = c.self.invariant in
    let e = length-rows c.self.inside.triples.keys c.self.inside.slots.items fits.pairs in
    let v = ap (λ v. length v.rows) c.self.view_is in
    let n = fits.slots_len in
    omega (arith, c.requires.inside)

pub invariant_of-self : goal.invariant_of-self
invariant_of-self c =
    let fits = c.self.invariant in
    let ts = c.self.inside.triples.keys in
    let ss = c.self.inside.slots.items in
    let e = length-rows ts ss fits.pairs in
    let v = ap (λ v. length v.rows) c.self.view_is in
    let lt : c.args.at < length ss = omega (arith, c.requires.inside) in
    let P : Rows → Type 0 = λ v. IfSome (slice_get v.rows c.args.at) (λ r. Fits r.triple r.number c.args.progress) in
    let r = replaced ts ss c.replace_progress.new.slots.items c.args.at c.args.progress c.replace_progress.result fits.pairs fits.fits lt
    (subst P (sym c.self.view_is) c.requires.fits) c.replace_progress.ensures.before c.replace_progress.ensures.items in
    record {
      pairs = r.pairs;
      slots_len = c.replace_progress.ensures.len ∙ fits.slots_len ∙ sym fits.pairs ∙ r.pairs;
      set_len = fits.set_len;
      fits = r.fits;
      unique = fits.unique;
    }

pub returns-clause-before : goal.returns-clause-before
returns-clause-before c =
    let fits = c.self.invariant in
    let ts = c.self.inside.triples.keys in
    let ss = c.self.inside.slots.items in
    let e = length-rows ts ss fits.pairs in
    let v = ap (λ v. length v.rows) c.self.view_is in
    let lt : c.args.at < length ss = omega (arith, c.requires.inside) in
    let P : Rows → Type 0 = λ v. IfSome (slice_get v.rows c.args.at) (λ r. Fits r.triple r.number c.args.progress) in
    let Q : Rows → Type 0 = λ v. IfSome (slice_get v.rows c.args.at) (λ r. (stage_of c.replace_progress.result ≡ r.stage) × Fits r.triple r.number c.replace_progress.result) in
    subst Q c.self.view_is (replaced ts ss c.replace_progress.new.slots.items c.args.at c.args.progress c.replace_progress.result fits.pairs fits.fits lt
    (subst P (sym c.self.view_is) c.requires.fits) c.replace_progress.ensures.before c.replace_progress.ensures.items).before

pub returns-clause-rows : goal.returns-clause-rows
returns-clause-rows c =
    let fits = c.self.invariant in
    let ts = c.self.inside.triples.keys in
    let ss = c.self.inside.slots.items in
    let e = length-rows ts ss fits.pairs in
    let v = ap (λ v. length v.rows) c.self.view_is in
    let lt : c.args.at < length ss = omega (arith, c.requires.inside) in
    let P : Rows → Type 0 = λ v. IfSome (slice_get v.rows c.args.at) (λ r. Fits r.triple r.number c.args.progress) in
    let Q : Rows → Type 0 = λ v. IfSome (slice_get v.rows c.args.at) (λ r. rows_of ts c.replace_progress.new.slots.items ≡ set v.rows c.args.at (staged r (stage_of c.args.progress))) in
    subst Q c.self.view_is (replaced ts ss c.replace_progress.new.slots.items c.args.at c.args.progress c.replace_progress.result fits.pairs fits.fits lt
    (subst P (sym c.self.view_is) c.requires.fits) c.replace_progress.ensures.before c.replace_progress.ensures.items).rows
