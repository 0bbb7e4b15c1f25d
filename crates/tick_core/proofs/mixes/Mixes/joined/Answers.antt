use Rattle.tick_core.proofs.Hearing.{last-in_state, state-there}
use Rattle.tick_core.specs.Hearing.{whole}
use Rattle.tick_core.proofs.mixes.Mixes.joined.Goals as goal

pub returns-then-is_in_state : goal.returns-then-is_in_state
returns-then-is_in_state c tick m =
    let rows = c.args.table.now.rows in
    let st = c.args.state.now in
    let last = c.in_ok-at.ensures tick rows m in
    last-in_state rows c.args.rate st (whole tick) c.in_ok-at.at last
    (state-there rows c.in_ok-at.at last.row st last.there (c.is_in_state.ensures c.if-is_in_state.true))
