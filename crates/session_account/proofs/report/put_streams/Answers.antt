use Rattle.std.specs.Prelude.{codes}
use Rattle.session_account.specs.Document.{stream_row}
use Rattle.session_account.proofs.Rows.{rows-more}
use Rattle.session_account.proofs.report.put_streams.Goals as goal

pub loop-i-preserved : goal.loop-i-preserved
loop-i-preserved c =
    rows-more c.args.form (codes "stream") stream_row c.loop-i.i c.args.streams.now.streams c.stream-ssrc.result _ _ _ _
    c.stream-ssrc.ensures c.stream_cells.ensures c.loop-i.invariant c.in_ok-put_item.ensures
