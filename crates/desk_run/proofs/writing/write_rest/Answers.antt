use Rattle.std.proofs.Common.{◌+◌, arith}
use Rattle.desk_run.proofs.Results.{on-err}
use Rattle.desk_run.proofs.Handing.{front-longer}
use Rattle.desk_run.proofs.writing.write_rest.Goals as goal

pub returns-in_err-write_tick-clause-fault : goal.returns-in_err-write_tick-clause-fault
returns-in_err-write_tick-clause-fault g c =
    on-err c.from_residual.result _ (λ start h stands closed was.
    let here = c.ticks.invariant.stands h stands closed in
    front-longer start _ (c.ticks.written.ticks + 1) c.args.end h (omega arith)
    (c.in_err-write_tick.ensures.fault start h (c.in-Some.ensures.packets h c.ticks.written.ticks here) (c.ticks.invariant.whole start h stands closed was)))
