use Rattle.std.proofs.Common.{◌≡◌, ◌∙◌, ℕ, List, drop, length, ap, sym, arith, length-drop}
use Rattle.std.proofs.lemmas.List.{take_rest}
use Rattle.conference_spec.specs.Packets.{Sending}
use Rattle.audit_check.specs.Difference.{common}
use Rattle.audit_check.proofs.Comparing.{keeps, finds-in}
use Rattle.audit_check.proofs.compare.Compare.meet.Goals as goal

pub returns-then-equal-text-clause-compared : goal.returns-then-equal-text-clause-compared
returns-then-equal-text-clause-compared c ss packet was m is =
    let s : Sending = record { tick = c.args.self.now.ticks; packet = packet } in
    let at = c.args.self.now.at in
    let text = c.args.text.now in
    keeps c.args.self.now ss s text c.common-equal.result c.requires.same was is c.requires.some
    (c.common-equal.ensures.value ∙ ap (λ (ys : List ℕ). common ys text) (take_rest c.as_slice.result.now at)
    ∙ ap (λ (xs : List ℕ). common (drop at xs) text) c.as_slice.ensures)
    c.if-equal-text.true

pub returns-else-equal-text-clause-compared : goal.returns-else-equal-text-clause-compared
returns-else-equal-text-clause-compared c ss packet was m is =
    let s : Sending = record { tick = c.args.self.now.ticks; packet = packet } in
    let at = c.args.self.now.at in
    let text = c.args.text.now in
    let left = ap (λ (xs : List ℕ). length xs) c.as_slice.ensures in
    let long = length-drop at c.args.self.now.out in
    finds-in c.args.self.now ss s text c.common-equal.result c.requires.same was is c.requires.some
    (c.common-equal.ensures.value ∙ ap (λ (ys : List ℕ). common ys text) (take_rest c.as_slice.result.now at)
    ∙ ap (λ (xs : List ℕ). common (drop at xs) text) c.as_slice.ensures)
    c.part_at-part.result c.if-equal-text.false (λ e. c.part_at-part.ensures.missing (omega arith)) (λ n. c.part_at-part.ensures.within (λ e. n (omega arith)))
    c.from.result c.args.member c.from.ensures m
