use Rattle.session_account.proofs.Seats.{seated-more}
use Rattle.session_account.proofs.voices.Voices.new.Goals as goal

pub loop-i-preserved : goal.loop-i-preserved
loop-i-preserved c =
    seated-more c.loop-i.i c.args.roster.now.timed c.timed.result c.loop-i.talkers.items c.seat.new.talkers.items c.timed.ensures c.loop-i.invariant c.in_ok-seat.ensures
