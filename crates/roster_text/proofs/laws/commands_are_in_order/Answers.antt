use Rattle.roster_text.proofs.Ordering.{roster_in_order}
use Rattle.roster_text.proofs.laws.commands_are_in_order.Goals as goal

pub returns : goal.returns
returns c = roster_in_order
