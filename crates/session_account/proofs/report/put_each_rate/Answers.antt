use Rattle.session_account.proofs.Rows.{four-pieces}
use Rattle.session_account.specs.Document.{rate_rows}
use Rattle.session_account.proofs.report.put_each_rate.Goals as goal

pub returns : goal.returns
unfolding rate_rows
returns c =
    four-pieces _ _ _ _ _ _ _ _ _ c.in_ok-put_rate.ensures c.in_ok-put_rate-2.ensures c.in_ok-put_rate-3.ensures c.in_ok-put_rate-4.ensures
