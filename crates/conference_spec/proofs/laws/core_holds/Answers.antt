use Rattle.conference_spec.specs.Machine.{core_after}
use Rattle.conference_spec.proofs.Events.{always-kept}
use Rattle.conference_spec.proofs.Told.{told}
use Rattle.conference_spec.proofs.laws.core_holds.Goals as goal

pub returns : goal.returns
returns c = λ coder tells events. told coder tells (core_after coder events) (always-kept coder tells events)
