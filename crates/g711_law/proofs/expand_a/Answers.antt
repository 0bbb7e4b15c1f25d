use Rattle.std.proofs.Common.{◌≤ℤ◌, ℤ, pos, negsuc, refl, sym, subst, ◌∙◌, ap, rules, arith, neg_ℤ, bit_xor, w16, FitsSigned}
use Rattle.std.proofs.lemmas.Int.{to_z-of_z}
use Rattle.g711_law.specs.declared.tables.TheConstants.{A_LAW}
use Rattle.g711_law.specs.Law.{a_law, a_value}
use Rattle.g711_law.proofs.Codes.{value_at, short_at, mirrored_at, falls_at}
use Rattle.g711_law.proofs.expand_a.Goals as goal

pub returns-clause-value : goal.returns-clause-value
returns-clause-value c =
    let fits : FitsSigned w16 c.at.result = search rules in
    to_z-of_z w16 c.at.result fits ∙ value_at A_LAW a_law c.args.code c.at.result refl (search rules) c.at.ensures

pub returns-clause-range : goal.returns-clause-range
returns-clause-range c =
    subst (λ (x : ℤ). (negsuc 8191 ≤ℤ x) × (x ≤ℤ pos 8191)) (sym (returns-clause-value c)) (short_at a_law c.args.code refl (search rules))

pub returns-clause-mirrored : goal.returns-clause-mirrored
returns-clause-mirrored c =
    mirrored_at a_law c.args.code refl (search rules) ∙ ap neg_ℤ (sym (returns-clause-value c))

pub returns-clause-falls : goal.returns-clause-falls
returns-clause-falls c lower below within =
    rw (returns-clause-value c) (falls_at a_value 127 lower (bit_xor c.args.code 0x55) refl below (omega arith))
