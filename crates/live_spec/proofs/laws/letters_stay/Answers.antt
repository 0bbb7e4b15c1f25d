use Rattle.live_spec.proofs.Staying.{letters-stay}
use Rattle.live_spec.proofs.laws.letters_stay.Goals as goal

pub returns : goal.returns
returns c = letters-stay
