-- The code is the quantised difference, and what follows is the state after it.
use Rattle.std.proofs.Common.{◌∙◌, ap, w16, rules}
use Rattle.std.proofs.lemmas.Int.{to_z-of_z}
use mir.Val.{SFits}
use Rattle.g726_bits.specs.Step.{state_after}
use Rattle.g726_bits.specs.Encoder.{stepped}
use Rattle.g726_codec.specs.Joined.{joined}
use Rattle.g726_codec.proofs.Parts.{code_from}
use Rattle.g726_codec.proofs.steps.step.Goals as goal

pub returns-clause-code : goal.returns-clause-code
returns-clause-code c =
    let f1 : SFits w16 c.estimate-est.result.se = search rules in
    let f2 : SFits w16 c.difference_of.result = search rules in
    let f3 : SFits w16 c.args.sample = search rules in
    let d_is = simp to_z-of_z at c.difference_of.ensures in
    let code_is = simp to_z-of_z at c.quantise_level-coded.ensures.value in
    code_from c.args.rate (joined c.args.predictor.now c.args.scale.now) c.args.sample c.estimate-est.result.se c.difference_of.result c.step_size-y.result c.quantise_level-coded.result.code
    c.estimate-est.ensures.se c.step_size-y.ensures.value d_is code_is

pub returns-clause-next : goal.returns-clause-next
unfolding stepped
returns-clause-next c =
    c.move_on.ensures.next ∙ ap (state_after c.args.rate (joined c.args.predictor.now c.args.scale.now)) (returns-clause-code c)
