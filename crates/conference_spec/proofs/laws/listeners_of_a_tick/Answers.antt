use Rattle.conference_spec.proofs.Sayings.{listeners-tick, were-there}
use Rattle.conference_spec.proofs.laws.listeners_of_a_tick.Goals as goal

pub returns : goal.returns
returns c = record { specs = listeners-tick; as_they_were = were-there }
