use Rattle.std.proofs.Common.{◌≡◌, ◌∷◌, ◌∙◌, sym, subst, ap}
use Rattle.jitter_line.specs.Histories.{Puts, packet}
use Rattle.jitter_line.specs.Standing.{Stands as stands_line}
use Rattle.session_spec.specs.Talkers.{placed}
use Rattle.desk.specs.declared.ear.Ear.{Ear}
use Rattle.desk.specs.Ears.{law_of, Hears}
use Rattle.desk.proofs.Ears.{placed-samples}
use Rattle.desk.proofs.ear.Ear.put.Goals as goal

pub returns-in-Law-clause-stands : goal.returns-in-Law-clause-stands
returns-in-Law-clause-stands c h stands =
    let here = subst (λ (ear : Ear). Hears ear h) c.in-Law.is stands in
    let same = ap (λ (ear : Ear). placed (law_of ear) c.args.payload.now) c.in-Law.is ∙ placed-samples _ _ c.args.payload.now in
    subst (λ xs. stands_line c.put_samples.new.line (Puts (packet c.args.stamp xs) ∷ h)) (sym same) (c.put_samples.ensures.stands h here)
