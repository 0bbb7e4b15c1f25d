use Rattle.std.proofs.Common.{◌≡◌, Bool, false, true, ◌-◌, length, List, refl, sym, ◌∙◌, subst}
use Rattle.std.specs.Prelude.{slice_get, Some}
use Rattle.std.specs.Bool.{OnFalse}
use Rattle.book_lists.specs.Levels.{Level}
use Rattle.tick_core.proofs.Handing.{split-last, not-over}
use Rattle.tick_core.proofs.book.Book.can_collect.Goals as goal

on-not : (b : Bool) (P : Type 0) → (b ≡ false → P) → OnFalse b P
on-not true P f = tt
on-not false P f = f refl

pub returns-in-Some-clause-not_yet : goal.returns-in-Some-clause-not_yet
returns-in-Some-clause-not_yet c =
    let b = c.args.self.now in
    let v = c.in-Some.oldest.now in
    let last = split-last b.open_ticks.items v (subst (λ (vs : List Level). slice_get vs (length vs - 1) ≡ Some v) c.deref.ensures.value (sym c.in-Some.ensures.value)) in
    on-not c.is_over.result _ (λ e core st. not-over b core last.front v st last.are (sym c.is_over.ensures ∙ e))
