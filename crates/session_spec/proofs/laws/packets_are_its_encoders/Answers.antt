use Rattle.session_spec.proofs.Own.{own-packets}
use Rattle.session_spec.proofs.laws.packets_are_its_encoders.Goals as goal

pub returns : goal.returns
returns c = own-packets
