use Rattle.std.specs.Prelude.{codes}
use Rattle.session_account.specs.Document.{talker_row}
use Rattle.session_account.proofs.Rows.{rows-more}
use Rattle.session_account.proofs.report.put_talkers.Goals as goal

pub loop-i-preserved : goal.loop-i-preserved
loop-i-preserved c =
    rows-more c.args.form (codes "talker") talker_row c.loop-i.i c.args.voices.now.talkers c.talker.result _ _ _ _
    c.talker.ensures c.talker_cells.ensures c.loop-i.invariant c.in_ok-put_item.ensures
