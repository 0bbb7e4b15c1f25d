use Rattle.std.proofs.Common.{◌≤ℤ◌, ℤ, pos, negsuc, refl, sym, subst, ◌∙◌, ap, rules, arith, neg_ℤ, w16, FitsSigned}
use Rattle.std.proofs.lemmas.Int.{to_z-of_z}
use Rattle.g711_law.specs.declared.tables.TheConstants.{MU_LAW}
use Rattle.g711_law.specs.Law.{mu_law}
use Rattle.g711_law.proofs.Codes.{value_at, short_at, mirrored_at, rises_at}
use Rattle.g711_law.proofs.expand_mu.Goals as goal

pub returns-clause-value : goal.returns-clause-value
returns-clause-value c =
    let fits : FitsSigned w16 c.at.result = search rules in
    to_z-of_z w16 c.at.result fits ∙ value_at MU_LAW mu_law c.args.code c.at.result refl (search rules) c.at.ensures

pub returns-clause-range : goal.returns-clause-range
returns-clause-range c =
    subst (λ (x : ℤ). (negsuc 8191 ≤ℤ x) × (x ≤ℤ pos 8191)) (sym (returns-clause-value c)) (short_at mu_law c.args.code refl (search rules))

pub returns-clause-mirrored : goal.returns-clause-mirrored
returns-clause-mirrored c =
    mirrored_at mu_law c.args.code refl (search rules) ∙ ap neg_ℤ (sym (returns-clause-value c))

pub returns-clause-rises : goal.returns-clause-rises
returns-clause-rises c lower below within =
    rw (returns-clause-value c) (rises_at mu_law 127 lower c.args.code refl below (omega arith))
