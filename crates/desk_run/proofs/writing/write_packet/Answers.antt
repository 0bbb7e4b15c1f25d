use Rattle.desk_run.proofs.Results.{ok-with, err-with}
use Rattle.desk_run.proofs.Texts.{put_whole, put_front}
use Rattle.desk_run.proofs.writing.write_packet.Goals as goal

pub returns-clause-whole : goal.returns-clause-whole
returns-clause-whole g c = ok-with c.put.result _ _ (put_whole _ _ c.args.tick c.args.packet.now _ c.spell-len.ensures.spelled) c.put.ensures.whole

pub returns-clause-fault : goal.returns-clause-fault
returns-clause-fault g c = err-with c.put.result _ _ (put_front _ _ c.args.tick c.args.packet.now _ c.spell-len.ensures.spelled) c.put.ensures.fault
