use Rattle.conference_spec.proofs.Sends.{sent-stays}
use Rattle.conference_spec.proofs.laws.packets_stay.Goals as goal

pub returns : goal.returns
returns c = sent-stays
