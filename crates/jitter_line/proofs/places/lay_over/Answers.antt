use Rattle.std.proofs.Common.{◌∙◌, ap, sym, arith, rules, get_or, pos, Some, w16, FitsSigned}
use Rattle.std.proofs.lemmas.Int.{to_z-of_z}
use Rattle.std.proofs.lemmas.Option.{slice_get-get_or}
use Rattle.jitter_line.proofs.Laying.{going_at, going_all}
use Rattle.jitter_line.proofs.places.lay_over.Goals as goal

pub loop-j-preserved : goal.loop-j-preserved
loop-j-preserved c =
    let fits : FitsSigned w16 (get_or c.args.samples.now c.loop-j.j (pos 0)) = search rules in
    rw (c.keep-is_new.ensures.places, c.from-new.ensures)
    (going_at _ _ _ _ _ _ _ _ _ c.loop-j.invariant (omega arith) (omega arith)
    (slice_get-get_or c.args.samples.now c.loop-j.j (pos 0) c.loop-j-test.true ∙ ap Some (sym (to_z-of_z w16 _ fits)))
    c.keep-is_new.ensures.new)

pub returns-clause-places : goal.returns-clause-places
returns-clause-places c = going_all _ _ _ _ _ _ c.loop-j.invariant (omega arith)
