use Rattle.std.proofs.Common.{◌∷◌, []}
use Rattle.conference_spec.specs.declared.Entry.TheVariants.{Join}
use Rattle.audit_check.proofs.Handing.{checks-since, ok-with}
use Rattle.audit_check.proofs.checking.CheckingAudience.join.Goals as goal

pub returns-clause-stands : goal.returns-clause-stands
returns-clause-stands c = ok-with c.join.result _ _
    (λ next h n s. checks-since c.args.self.now c.join.new.self (Join c.args.spec ∷ []) h n (λ handed. next h n handed) s) c.join.ensures.stands
