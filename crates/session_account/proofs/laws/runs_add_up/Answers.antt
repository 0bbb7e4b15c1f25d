use Rattle.session_account.proofs.Rates.{runs-sum}
use Rattle.session_account.proofs.laws.runs_add_up.Goals as goal

pub returns : goal.returns
returns c f = runs-sum f
