use Rattle.std.proofs.Common.{◌∙◌, ap, sym, subst, Some}
use Rattle.session_spec.specs.Talkers.{law_of_talker, talkers}
use Rattle.desk.specs.Kept.{Kept}
use Rattle.desk.specs.Standing.{Stands}
use Rattle.desk.proofs.Hearing.{unknown, found}
use Rattle.desk.proofs.lines.Desk.law_on.Goals as goal

pub returns-in_err-place : goal.returns-in_err-place
returns-in_err-place c h stands =
    let here = subst (λ (d : Kept). Stands d h) (sym c.self.view_is) stands in
    c.from_residual.ensures
    ∙ sym (ap law_of_talker (unknown c.args.ssrc _ (talkers h) here.lines (rw c.deref.ensures.value at (sym c.in_err-place.ensures))))

pub returns : goal.returns
returns c h stands =
    let here = subst (λ (d : Kept). Stands d h) (sym c.self.view_is) stands in
    let talker = found c.args.ssrc c.in_ok-place.place _ (talkers h) _ here.lines c.self.invariant.differ (rw c.deref.ensures.value at (sym c.in_ok-place.ensures)) c.index.ensures in
    ap Some (c.law.ensures ∙ ap (λ talk. talk.law) talker.stands.talk) ∙ sym (ap law_of_talker talker.on)
