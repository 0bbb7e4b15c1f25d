use Rattle.std.proofs.Common.{◌∷◌, []}
use Rattle.conference_spec.specs.declared.Entry.TheVariants.{Cut}
use Rattle.audit_check.proofs.Handing.{checks-since}
use Rattle.audit_check.proofs.checking.CheckingConference.cut.Goals as goal

pub returns-clause-stands : goal.returns-clause-stands
returns-clause-stands c h n s all =
    checks-since c.args.self.now c.cut.new.self (Cut ∷ []) h n (λ handed. c.cut.ensures.stands h n handed all) s
