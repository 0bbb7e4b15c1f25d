use Rattle.conference_spec.proofs.Alone.{after-heard, payloads-heard}
use Rattle.conference_spec.proofs.laws.heard_is_alone.Goals as goal

pub returns : goal.returns
returns c = record { state = after-heard; payloads = payloads-heard }
