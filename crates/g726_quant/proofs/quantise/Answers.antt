-- The code is the definition's, of which the lemmas speak.
use Rattle.std.proofs.Common.{pos, w16, rules}
use Rattle.std.proofs.lemmas.Int.{to_z-of_z}
use mir.Val.{SFits}
use Rattle.g726_quant.proofs.CodeLevels.{quantised_level, quantised_some}
use Rattle.g726_quant.proofs.quantise.Goals as goal

pub returns-clause-value : goal.returns-clause-value
returns-clause-value c =
    let fits : SFits w16 c.args.d = search rules in
    simp to_z-of_z at c.quantise_level.ensures.value

pub returns-clause-level : goal.returns-clause-level
returns-clause-level c = rw (returns-clause-value c) (quantised_level c.args.rate c.args.d (pos c.args.y))

pub returns-clause-sent : goal.returns-clause-sent
returns-clause-sent c more = rw (returns-clause-value c) (quantised_some c.args.rate c.args.d (pos c.args.y) more)
