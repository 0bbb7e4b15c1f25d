use Rattle.session_spec.proofs.Listening.{same-ticks, same-refusals}
use Rattle.session_spec.proofs.laws.listeners_change_nothing.Goals as goal

pub returns : goal.returns
returns c = record { ticks = same-ticks; refusals = same-refusals }
