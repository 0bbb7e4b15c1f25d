use Rattle.session_spec.proofs.Following.{text-stays, packets-stay}
use Rattle.session_spec.proofs.laws.text_stays.Goals as goal

pub returns : goal.returns
returns c = record { text = text-stays; packets = packets-stay }
