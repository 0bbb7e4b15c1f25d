use Rattle.desk_run.proofs.Results.{on-err}
use Rattle.desk_run.proofs.Texts.{front_all}
use Rattle.desk_run.proofs.Handing.{wrote-tick, wrote-front}
use Rattle.desk_run.proofs.writing.write_tick.Goals as goal

pub returns-in_err-write_packets-clause-fault : goal.returns-in_err-write_packets-clause-fault
returns-in_err-write_packets-clause-fault g c =
    on-err c.from_residual.result _ (λ start h are was.
    wrote-front start _ _ c.args.written.now c.ticks.result h c.args.packets.now.packets are c.ticks.ensures was c.in_err-write_packets.ensures.fault)

pub returns-in-Ok-clause-whole : goal.returns-in-Ok-clause-whole
returns-in-Ok-clause-whole g c start h are was =
    wrote-tick start _ _ c.args.written.now c.add.new.self c.ticks.result c.len.result h c.args.packets.now.packets are c.in-Ok.ensures c.len.ensures c.ticks.ensures was
    c.in_ok-write_packets.ensures.whole

pub returns-in-Err-clause-fault : goal.returns-in-Err-clause-fault
returns-in-Err-clause-fault g c start h are was =
    wrote-front start _ _ c.args.written.now c.ticks.result h c.args.packets.now.packets are c.ticks.ensures was (front_all _ _ _ c.in_ok-write_packets.ensures.whole)
