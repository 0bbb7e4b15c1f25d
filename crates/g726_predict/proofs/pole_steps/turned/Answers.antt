-- A magnitude of 13 bits with a sign is within 13 bits and a sign.
use Rattle.std.proofs.Common.{w16, rules}
use Rattle.std.proofs.lemmas.Int.{to_z-of_z}
use mir.Val.{SFits}
use Rattle.g726_predict.proofs.Parts.{turned_within}
use Rattle.g726_predict.proofs.pole_steps.turned.Goals as goal

pub returns-clause-within : goal.returns-clause-within
returns-clause-within c =
    let fits : SFits w16 c.signed_by.result = search rules in
    rw (to_z-of_z w16 c.signed_by.result fits, c.signed_by.ensures, c.magnitude_of.ensures.value) (turned_within _ _)
