use Rattle.std.proofs.Common.{◌+ℤ◌, ◌∙◌, arith, rules, w16, FitsSigned}
use Rattle.std.proofs.lemmas.Int.{to_z-of_z, ints}
use Rattle.talk_mix.proofs.blend.limited_sum.Goals as goal

pub returns-clause-value : goal.returns-clause-value
returns-clause-value c =
    let fits : FitsSigned w16 c.clamp.result = search rules in
    let first : FitsSigned w16 c.args.a = search rules in
    let second : FitsSigned w16 c.args.b = search rules in
    let third : FitsSigned w16 c.args.c = search rules in
    let last : FitsSigned w16 (c.args.b +ℤ c.args.c) = omega (arith, ints) in
    let all : FitsSigned w16 (c.args.a +ℤ (c.args.b +ℤ c.args.c)) = omega (arith, ints) in
    to_z-of_z w16 c.clamp.result fits ∙ (simp to_z-of_z at c.clamp.ensures.value)
