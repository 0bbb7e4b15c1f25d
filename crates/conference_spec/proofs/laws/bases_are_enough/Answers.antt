use Rattle.conference_spec.proofs.Since.{bases-agree}
use Rattle.conference_spec.proofs.laws.bases_are_enough.Goals as goal

pub returns : goal.returns
returns c = record { agree = bases-agree }
