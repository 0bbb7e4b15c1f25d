-- The rank is the place in the tables of the code that is made of it.
use Rattle.std.proofs.Common.{◌≡◌, ◌∙◌, ap, pos, slice_index_or, w16, rules, arith}
use Rattle.std.proofs.lemmas.Int.{to_z-of_z}
use mir.Val.{SFits}
use Rattle.g726_bits.specs.Tables.{log_levels, scale_steps, speed_steps}
use Rattle.g726_bits.specs.Step.{level_of, log_level, scale_step, speed_step}
use Rattle.g726_bits.proofs.CodeRanges.{quantised_lt}
use Rattle.g726_quant.proofs.CodeLevels.{IsRank, twice_levels, code_is, sign_is, place_is}
use Rattle.g726_quant.proofs.quantise_level.Goals as goal

ranked : (c : goal.After-speed_step_at) → IsRank c.args.rate c.args.d (pos c.args.y) c.rank_under-rank.result c.has_sign-signed.result
ranked c =
    let fits : SFits w16 c.args.d = search rules in
    let rank_is = simp to_z-of_z at c.rank_under-rank.ensures.value in
    let signed_is = simp to_z-of_z at c.has_sign-signed.ensures in
    record { rank_is = rank_is; sign_is = signed_is }

placed : (c : goal.After-speed_step_at) → c.from-place.result ≡ level_of c.args.rate c.coded.result
placed c = c.from-place.ensures ∙ place_is c.args.rate c.args.d (pos c.args.y) _ _ c.coded.result (ranked c) c.coded.ensures

pub coded-requires : goal.coded-requires
coded-requires c = omega (arith, twice_levels c.args.rate)

pub log_level_at-requires : goal.log_level_at-requires
log_level_at-requires c = omega arith

pub scale_step_at-requires : goal.scale_step_at-requires
scale_step_at-requires c = omega arith

pub speed_step_at-requires : goal.speed_step_at-requires
speed_step_at-requires c = omega arith

pub returns-clause-value : goal.returns-clause-value
returns-clause-value c = code_is c.args.rate c.args.d (pos c.args.y) _ _ c.coded.result (ranked c) c.coded.ensures

pub returns-clause-within : goal.returns-clause-within
returns-clause-within c = rw (returns-clause-value c) (quantised_lt c.args.rate c.args.d (pos c.args.y))

pub returns-clause-neg : goal.returns-clause-neg
returns-clause-neg c = sign_is c.args.rate c.args.d (pos c.args.y) _ _ c.coded.result (ranked c) c.coded.ensures

pub returns-clause-dqln : goal.returns-clause-dqln
unfolding log_level
returns-clause-dqln c =
    let fits : SFits w16 c.log_level_at.result = search rules in
    to_z-of_z w16 c.log_level_at.result fits ∙ (c.log_level_at.ensures ∙ ap (λ k. slice_index_or (log_levels c.args.rate) k (pos 0)) (placed c))

pub returns-clause-w : goal.returns-clause-w
unfolding scale_step
returns-clause-w c =
    let fits : SFits w16 c.scale_step_at.result = search rules in
    to_z-of_z w16 c.scale_step_at.result fits ∙ (c.scale_step_at.ensures ∙ ap (λ k. slice_index_or (scale_steps c.args.rate) k (pos 0)) (placed c))

pub returns-clause-f : goal.returns-clause-f
unfolding speed_step
returns-clause-f c = c.speed_step_at.ensures ∙ ap (λ k. slice_index_or (speed_steps c.args.rate) k 0) (placed c)

pub returns-clause-entry : goal.returns-clause-entry
returns-clause-entry c = record { rate = c.args.rate; code = c.coded.result; small = returns-clause-within c; read = returns-clause-dqln c }
