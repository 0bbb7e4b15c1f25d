use Rattle.desk_run.specs.declared.run.RunEnd.TheVariants.{Done, Dump}
use Rattle.bridge_calls.proofs.Sessions.{ended-told}
use Rattle.bridge_calls.proofs.beside.run_session_beside.Goals as goal

pub returns-in-Done-clause-told : goal.returns-in-Done-clause-told
returns-in-Done-clause-told g c =
    ended-told _ _ _ _ _ _ _ c.run_shared.result (Done c.in-Done.summary) c.new-desk.ensures.plan c.ticks-ticks.ensures.value c.in-Done.is c.run_shared.ensures.told

pub returns-in-Dump-clause-told : goal.returns-in-Dump-clause-told
returns-in-Dump-clause-told g c =
    ended-told _ _ _ _ _ _ _ c.run_shared.result (Dump c.in-Dump.at c.in-Dump.kind) c.new-desk.ensures.plan c.ticks-ticks.ensures.value c.in-Dump.is c.run_shared.ensures.told
