use Rattle.desk_shared.proofs.Handing.{goes-or-stays}
use Rattle.desk_shared.proofs.waiting.WaitingAudience.leave.Goals as goal

pub returns-clause-stands : goal.returns-clause-stands
returns-clause-stands g c = λ h n there.
    (goes-or-stays _ _ h n c.args.member c.leave-left.result c.leave-left.ensures.ok c.leave-left.ensures.err c.leave-left.ensures.absent there.0, there.1)
