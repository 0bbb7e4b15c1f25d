use Rattle.std.proofs.Common.{◌≡◌, ◌+◌, inl, inr, [], ◌∷◌, ◌++◌, length, List, sym, ◌∙◌, ap, subst, arith, refl, length-append}
use Rattle.g726_codec.specs.declared.Triple.{Triple}
use Rattle.conference_spec.specs.declared.Stage.TheVariants as stages
use Rattle.triple_table.specs.Rows.{Rows, IsNewTriple, IsRowOf}
use Rattle.std.specs.List.{AllZip}
use Rattle.triple_table.specs.declared.Slot.{Slot}
use Rattle.triple_table.specs.declared.Progress.TheVariants as progress
use Rattle.triple_table.specs.Inside.{rows_of, row_of, stage_of, SlotFits}
use Rattle.triple_table.proofs.Places.{found, found-at, found-none, has-room, one-there, length-rows, rows-append, fits-append}
use Rattle.triple_table.proofs.Table.place.Goals as goal

pub slot-requires : goal.slot-requires
slot-requires c =
    let fits = c.self.invariant in
    let e = length-rows c.self.inside.triples.keys c.self.inside.slots.items fits.pairs in
    let v = ap (λ v. length v.rows) c.self.view_is in
    let a = fits.set_len in
    let b = fits.pairs in
    omega (arith, c.in-Some.ensures.within)

pub returns-in-Finished-clause-placed : goal.returns-in-Finished-clause-placed
returns-in-Finished-clause-placed c =
    let fits = c.self.invariant in
    let ts = c.self.inside.triples.keys in
    let ss = c.self.inside.slots.items in
    let P : Rows → Type 0 = λ v. IsRowOf v.rows c.in-Some.at c.args.triple in
    let r = subst P c.self.view_is (found-at ts ss c.args.triple c.get_index_of.result c.in-Some.at c.in-Some.is
    (found ts ss c.args.triple c.get_index_of.result fits.pairs c.get_index_of.ensures.index c.get_index_of.ensures.found)) in
    let s = c.slot.ensures in
    let one = one-there c.args.self.now.rows c.in-Some.at r.row (row_of s.triple c.slot.result.now) r.there s.there in
    (r.row, r.there, r.same, ap (λ q. q.stage) one ∙ ap stage_of c.in-Finished.is, refl, refl)

pub returns-in-Waiting : goal.returns-in-Waiting
returns-in-Waiting c =
    let fits = c.self.invariant in
    let ts = c.self.inside.triples.keys in
    let ss = c.self.inside.slots.items in
    let P : Rows → Type 0 = λ v. IsRowOf v.rows c.in-Some.at c.args.triple in
    let r = subst P c.self.view_is (found-at ts ss c.args.triple c.get_index_of.result c.in-Some.at c.in-Some.is
    (found ts ss c.args.triple c.get_index_of.result fits.pairs c.get_index_of.ensures.index c.get_index_of.ensures.found)) in
    let s = c.slot.ensures in
    let one = one-there c.args.self.now.rows c.in-Some.at r.row (row_of s.triple c.slot.result.now) r.there s.there in
    record {
      placed = (
        r.row,
        r.there,
        r.same,
        (λ e.
            let fin : stage_of c.slot.result.now.progress ≡ stages.Finished = sym (ap (λ q. q.stage) one) ∙ e in
            elim c.in-Waiting.is [
              | inl w ↦ (let q : stages.Waiting ≡ stages.Finished = sym (ap stage_of w.1) ∙ fin in cc)
              | inr w ↦ (let q : stages.Out ≡ stages.Finished = sym (ap stage_of w) ∙ fin in cc)
            ]),
        refl,
        refl,
      );
      room = omega arith;
    }

pub put_triple-requires-clause-room : goal.put_triple-requires-clause-room
put_triple-requires-clause-room c =
    let fits = c.self.invariant in
    let ts = c.self.inside.triples.keys in
    let ss = c.self.inside.slots.items in
    let P : Rows → Type 0 = λ v. IsNewTriple v.rows c.args.triple in
    let new = subst P c.self.view_is (found-none ts ss c.args.triple c.get_index_of.result c.in_default.is
    (found ts ss c.args.triple c.get_index_of.result fits.pairs c.get_index_of.ensures.index c.get_index_of.ensures.found)) in
    let lt = has-room c.args.self.now.rows c.args.triple c.args.self.now.room new c.requires.room in
    let e = length-rows ts ss fits.pairs in
    let v = ap (λ v. length v.rows) c.self.view_is in
    let w = ap (λ v. v.room) c.self.view_is in
    let a = fits.set_len in
    let b = fits.pairs in
    omega arith

pub put_slot-requires : goal.put_slot-requires
put_slot-requires c =
    let fits = c.self.invariant in
    let ts = c.self.inside.triples.keys in
    let ss = c.self.inside.slots.items in
    let P : Rows → Type 0 = λ v. IsNewTriple v.rows c.args.triple in
    let new = subst P c.self.view_is (found-none ts ss c.args.triple c.get_index_of.result c.in_default.is
    (found ts ss c.args.triple c.get_index_of.result fits.pairs c.get_index_of.ensures.index c.get_index_of.ensures.found)) in
    let lt = has-room c.args.self.now.rows c.args.triple c.args.self.now.room new c.requires.room in
    let e = length-rows ts ss fits.pairs in
    let v = ap (λ v. length v.rows) c.self.view_is in
    let w = ap (λ v. v.room) c.self.view_is in
    let a = fits.slots_len in
    omega arith

pub invariant_of-self : goal.invariant_of-self
invariant_of-self c =
    let fits = c.self.invariant in
    let ts = c.self.inside.triples.keys in
    let ss = c.self.inside.slots.items in
    let slot : Slot = record { number = c.number.result; progress = progress.Waiting c.issue-permit.result } in
    let keys = c.put_triple.ensures.keys in
    let items = c.put_slot.ensures.items in
    let long = length-append ts (c.args.triple ∷ []) in
    let more = length-append ss (slot ∷ []) in
    let a = ap length keys in
    let b = ap length items in
    let p = fits.pairs in
    let q = fits.slots_len in
    let r = fits.set_len in
    let z : AllZip SlotFits (ts ++ c.args.triple ∷ []) (ss ++ slot ∷ []) = fits-append ts ss c.args.triple slot fits.fits (sym c.number.ensures) in
    let P : List Triple → List Slot → Type 0 = λ ks xs. AllZip SlotFits ks xs in
    record {
      pairs = omega arith;
      slots_len = omega (arith, c.put_slot.ensures.len);
      set_len = omega (arith, c.put_triple.ensures.len);
      fits = subst (λ xs. P c.put_triple.new.triples.keys xs) (sym items) (subst (λ ks. P ks (ss ++ slot ∷ [])) (sym keys) z);
      unique = c.put_triple.ensures.unique;
    }

pub returns-clause-placed : goal.returns-clause-placed
returns-clause-placed c =
    let fits = c.self.invariant in
    let ts = c.self.inside.triples.keys in
    let ss = c.self.inside.slots.items in
    let slot : Slot = record { number = c.number.result; progress = progress.Waiting c.issue-permit.result } in
    let P : Rows → Type 0 = λ v. IsNewTriple v.rows c.args.triple in
    let new = subst P c.self.view_is (found-none ts ss c.args.triple c.get_index_of.result c.in_default.is
    (found ts ss c.args.triple c.get_index_of.result fits.pairs c.get_index_of.ensures.index c.get_index_of.ensures.found)) in
    let e = length-rows ts ss fits.pairs in
    let v = ap (λ v. length v.rows) c.self.view_is in
    let number : c.number.result ≡ c.args.meter.now + 1 = c.number.ensures ∙ c.issue-permit.ensures.number in
    let rows : rows_of c.put_triple.new.triples.keys c.put_slot.new.slots.items ≡ rows_of ts ss ++ row_of c.args.triple slot ∷ [] =
    ap (λ ks. rows_of ks c.put_slot.new.slots.items) c.put_triple.ensures.keys ∙ ap (rows_of (ts ++ c.args.triple ∷ [])) c.put_slot.ensures.items
    ∙ rows-append ts ss c.args.triple slot fits.pairs in (
      new,
      c.len-at.ensures ∙ fits.slots_len ∙ sym e ∙ v,
      rows ∙ ap (λ v. v.rows ++ row_of c.args.triple slot ∷ []) c.self.view_is
          ∙ ap (λ n. c.args.self.now.rows ++ record { triple = c.args.triple; number = n; stage = stages.Waiting } ∷ []) number,
      c.issue-permit.ensures.issued,
    )
