-- A length of at most 128 with a sign is within 128.
use Rattle.std.proofs.Common.{w16, w32, rules}
use Rattle.std.proofs.lemmas.Int.{to_z-of_z}
use mir.Val.{SFits}
use Rattle.g726_predict.proofs.Parts.{step_within}
use Rattle.g726_predict.proofs.zero_steps.step.Goals as goal

pub returns-clause-within : goal.returns-clause-within
returns-clause-within c =
    let f1 : SFits w16 c.signed_by.result = search rules in
    let f2 : SFits w32 c.from.result = search rules in
    let from_is = simp to_z-of_z at c.from.ensures in
    rw (to_z-of_z w32 c.from.result f2, from_is, c.signed_by.ensures, c.length_of_step.ensures.value) (step_within _ c.args.g)
