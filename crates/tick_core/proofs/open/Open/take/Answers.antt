use Rattle.std.proofs.Common.{◌≡◌, List, Option, Some, inl, inr, sym, ap, ◌∙◌, subst, set, IfSome}
use Rattle.std.specs.Prelude.{slice_get}
use Rattle.conference_spec.specs.declared.Stage.TheVariants.{Out}
use Rattle.triple_table.specs.Rows.{Row, staged}
use Rattle.book_lists.specs.Levels.{Level}
use Rattle.book_lists.proofs.Carrying.{get-set}
use Rattle.tick_core.proofs.Places.{row-of}
use Rattle.tick_core.proofs.open.Open.take.Goals as goal

pub returns-clause-job : goal.returns-clause-job
returns-clause-job c =
    let at = c.args.at in
    let row = c.requires.row in
    let rows = c.self.inside.table.rows in
    let there : slice_get rows at ≡ Some row = ap (λ (v : Level). slice_get v.rows at) c.self.view_is ∙ c.requires.there in
    let new = c.take-permit.new.self.rows in
    let set_there : new ≡ set rows at (staged row Out) = row-of rows at row (λ (r : Row). new ≡ set rows at (staged r Out)) there c.take-permit.ensures.rows in
    let number = row-of rows at row (λ (r : Row). c.take-permit.result ≡ r.number) there c.take-permit.ensures.permit in
    let here = λ (rs : List Row). slice_get rs at in
    let P : Row → Type 0 = λ r. c.triple_at.result.now ≡ r.triple in
    let triple : c.triple_at.result.now ≡ row.triple = elim (get-set rows at row (staged row Out) at row there there) [
      | inl e ↦ row-of new at row P (ap here set_there ∙ e) c.triple_at.ensures
      | inr e ↦ row-of new at (staged row Out) P (ap here set_there ∙ e.1) c.triple_at.ensures
    ] in
    subst (λ (o : Option Row). IfSome o (λ r. c.of.result ≡ record { number = r.number; task = record { tick = c.args.tick; triple = r.triple } })) (sym c.requires.there)
    (c.of.ensures ∙ (λ i. record { number = number i; task = record { tick = c.args.tick; triple = triple i } }))
