use Rattle.live_spec.proofs.Recording.{recordings-alike}
use Rattle.live_spec.proofs.laws.recordings_are_heard_alike.Goals as goal

pub returns : goal.returns
returns c = recordings-alike
