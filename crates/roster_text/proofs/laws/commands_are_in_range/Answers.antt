use Rattle.roster_text.proofs.Ordering.{roster_in_range}
use Rattle.roster_text.proofs.laws.commands_are_in_range.Goals as goal

pub returns : goal.returns
returns c = roster_in_range
