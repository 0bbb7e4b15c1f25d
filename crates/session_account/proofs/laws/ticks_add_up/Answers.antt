use Rattle.session_account.proofs.TickSums.{ticks-sum}
use Rattle.session_account.proofs.laws.ticks_add_up.Goals as goal

pub returns : goal.returns
returns c plan f = ticks-sum plan f
