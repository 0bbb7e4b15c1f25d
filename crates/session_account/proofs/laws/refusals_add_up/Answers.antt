use Rattle.session_account.proofs.Refusals.{add-up}
use Rattle.session_account.proofs.laws.refusals_add_up.Goals as goal

pub returns : goal.returns
returns c h = add-up h
