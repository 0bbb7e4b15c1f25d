use Rattle.std.proofs.lemmas.Result.{on_err_weaker}
use Rattle.rtp_dump.proofs.Written.{front_of_first, front_then_front}
use Rattle.rtp_dump.proofs.writer.write_both.Goals as goal

pub returns-in-Ok-clause-fault : goal.returns-in-Ok-clause-fault
returns-in-Ok-clause-fault g c = on_err_weaker _ (front_then_front _ _ _ _ _ c.in-Ok.ensures.whole) c.write_all-in-Ok.ensures.fault

pub returns-in-Err-clause-fault : goal.returns-in-Err-clause-fault
returns-in-Err-clause-fault g c = front_of_first _ _ _ _ c.in-Err.ensures.fault
