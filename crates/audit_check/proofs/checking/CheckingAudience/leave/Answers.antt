use Rattle.audit_check.proofs.Handing.{checks-leaving}
use Rattle.audit_check.proofs.checking.CheckingAudience.leave.Goals as goal

pub returns-clause-stands : goal.returns-clause-stands
returns-clause-stands c h n s =
    checks-leaving c.args.self.now c.leave.new.self c.args.member h n (λ handed. c.leave.ensures.stands h n handed) s
