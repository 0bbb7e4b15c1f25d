use Rattle.conference_spec.proofs.Alone.{after_all-append, payloads_of-append}
use Rattle.conference_spec.proofs.laws.alone_goes_on.Goals as goal

pub returns : goal.returns
returns c = record { state = after_all-append; payloads = payloads_of-append }
