use Rattle.std.proofs.Common.{ap}
use Rattle.conference_spec.specs.Machine.{next_waiting}
use Rattle.conference_spec.proofs.Twins.{twins-agree, twins-accept, twins-held, twins-entered, twins-next}
use Rattle.conference_spec.proofs.laws.twins_go_on.Goals as goal

pub returns : goal.returns
returns c = record {
  agree = twins-agree;
  accepted = twins-accept;
  waiting = λ coder p q s c d t. ap next_waiting t.runs;
  held_out = twins-held;
  entered = twins-entered;
  next = twins-next;
}
