use Rattle.conference_spec.specs.Feed.{guests}
use Rattle.conference_spec.proofs.Told.{contains-in}
use Rattle.conference_spec.proofs.Sends.{sent-tick, until-dated}
use Rattle.conference_spec.proofs.laws.packets_of_a_tick.Goals as goal

pub returns : goal.returns
returns c = record { sent = sent-tick; heard = λ coder h g i. until-dated coder h g (contains-in (guests coder h) g i) }
