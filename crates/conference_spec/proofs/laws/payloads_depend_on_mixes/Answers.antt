use Rattle.conference_spec.proofs.Sayings.{own-same, packets-same}
use Rattle.conference_spec.proofs.laws.payloads_depend_on_mixes.Goals as goal

pub returns : goal.returns
returns c = record { payloads = own-same; packets = packets-same }
