use Rattle.session_spec.proofs.Cutting.{same-sent, same-left, same-runs, same-refused}
use Rattle.session_spec.proofs.laws.cuts_change_nothing.Goals as goal

pub returns : goal.returns
returns c = record { sent = same-sent; left = same-left; runs = same-runs; refusals = same-refused }
