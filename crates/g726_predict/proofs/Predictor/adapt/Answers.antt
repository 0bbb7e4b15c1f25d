-- The parts are the definition's, and the poles of what it gives are stable.
use Rattle.std.proofs.Common.{◌≡◌, sym, ◌∙◌, ap, w16, rules}
use Rattle.std.proofs.lemmas.Int.{to_z-of_z}
use mir.Val.{SFits}
use Rattle.g726_bits.specs.Step.{signal_estimate, partial_estimate, predictor_after, pole_after, is_tone, tone_after}
use Rattle.g726_bits.proofs.PredictorRanges.{predictor_after_stable}
use Rattle.g726_predict.specs.Shown.{shown}
use Rattle.g726_predict.proofs.Parts.{Worked, sr-reconstructed, dqsez-partial, a2p-pole, put_together}
use Rattle.g726_predict.proofs.Predictor.adapt.Goals as goal

-- the numbers that `adapt` works out are the definition's
worked : (c : goal.After-stands_for_tone) → Worked c.self.inside c.args.neg c.args.g c.args.est.se c.args.est.sez c.with_sign-dq.result c.sum_of_two-sr.result c.sum_of_two-dqsez.result c.next_second-a2p.result
worked c =
    let f1 : SFits w16 c.args.est.se = search rules in
    let f2 : SFits w16 c.args.est.sez = search rules in
    let f3 : SFits w16 c.with_sign-dq.result = search rules in
    let f4 : SFits w16 c.sum_of_two-dqsez.result = search rules in
    let f5 : SFits w16 c.self.inside.poles.a1 = search rules in
    let f6 : SFits w16 c.self.inside.poles.a2 = search rules in
    record {
      se_is = c.requires.se ∙ ap signal_estimate (sym c.self.view_is);
      sez_is = c.requires.sez ∙ ap partial_estimate (sym c.self.view_is);
      dq_is = c.with_sign-dq.ensures;
      sr_is = simp to_z-of_z at c.sum_of_two-sr.ensures;
      dqsez_is = simp to_z-of_z at c.sum_of_two-dqsez.ensures;
      a2p_is = simp to_z-of_z at c.next_second-a2p.ensures.value;
    }

next_is : (c : goal.After-stands_for_tone) → shown (record { poles = c.next_poles.result; zeros = c.next_zeros.result; past = c.next_past.result }) ≡ predictor_after c.args.rate (shown c.self.inside) c.args.neg c.args.g c.args.tr
next_is c =
    let w = worked c in
    let f1 : SFits w16 c.sum_of_two-sr.result = search rules in
    let f2 : SFits w16 c.sum_of_two-dqsez.result = search rules in
    let f3 : SFits w16 c.next_second-a2p.result = search rules in
    let poles_is = simp to_z-of_z at c.next_poles.ensures in
    put_together c.args.rate c.self.inside c.args.neg c.args.g c.args.tr c.sum_of_two-sr.result c.sum_of_two-dqsez.result c.next_second-a2p.result
    c.next_poles.result c.next_zeros.result c.next_past.result
    (sr-reconstructed _ _ _ _ _ _ _ _ _ w) (dqsez-partial _ _ _ _ _ _ _ _ _ w) (a2p-pole _ _ _ _ _ _ _ _ _ w)
    poles_is c.next_zeros.ensures c.next_past.ensures

pub invariant_of-next : goal.invariant_of-next
invariant_of-next c = rw (next_is c) (predictor_after_stable c.args.rate (shown c.self.inside) c.args.neg c.args.g c.args.tr)

pub returns-clause-next : goal.returns-clause-next
returns-clause-next c = next_is c ∙ ap (λ p. predictor_after c.args.rate p c.args.neg c.args.g c.args.tr) c.self.view_is

pub returns-clause-stable : goal.returns-clause-stable
returns-clause-stable c = rw (next_is c) (predictor_after_stable c.args.rate (shown c.self.inside) c.args.neg c.args.g c.args.tr)

pub returns-clause-tone : goal.returns-clause-tone
unfolding tone_after
returns-clause-tone c =
    let f3 : SFits w16 c.next_second-a2p.result = search rules in
    let e = simp to_z-of_z at c.stands_for_tone.ensures in
    e ∙ ap is_tone (a2p-pole _ _ _ _ _ _ _ _ _ (worked c) ∙ ap (λ p. pole_after p c.args.neg c.args.g) c.self.view_is)
