use Rattle.std.proofs.Common.{length}
use Rattle.tick_core.proofs.mails.+walk.Given as goal

abbrev pub decreases-walk : goal.decreases-walk
decreases-walk l = length l.mails.now
