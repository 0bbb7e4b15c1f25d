use Rattle.std.proofs.Common.{arith, get_or}
use Rattle.std.proofs.lemmas.Option.{slice_get-get_or}
use Rattle.g726_bits.specs.declared.Rate.TheVariants.{R16}
use Rattle.std.specs.Prelude.{codes}
use Rattle.session_account.specs.Document.{listener_row}
use Rattle.session_account.proofs.Rows.{rows-more}
use Rattle.session_account.proofs.report.put_listeners.Goals as goal

pub loop-i-preserved : goal.loop-i-preserved
loop-i-preserved c =
    rows-more c.args.form (codes "listener") listener_row c.loop-i.i c.args.listeners.now (get_or c.args.listeners.now c.loop-i.i (record { member = 0; rate = R16; ticks = 0; packets = 0 })) _ _ _ _
    (slice_get-get_or c.args.listeners.now c.loop-i.i (record { member = 0; rate = R16; ticks = 0; packets = 0 }) (omega arith)) c.listener_cells.ensures c.loop-i.invariant c.in_ok-put_item.ensures
