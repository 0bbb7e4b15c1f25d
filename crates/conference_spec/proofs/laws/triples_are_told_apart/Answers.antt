use Rattle.conference_spec.proofs.Equal.{g726-tells}
use Rattle.conference_spec.proofs.laws.triples_are_told_apart.Goals as goal

pub returns : goal.returns
returns c = g726-tells
