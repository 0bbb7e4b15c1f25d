use Rattle.std.proofs.Common.{◌+ℤ◌, ℕ, ℤ, pos, get_or, arith, rules, ◌∙◌, w16, FitsSigned}
use Rattle.std.proofs.lemmas.Int.{to_z-of_z}
use Rattle.talk_mix.proofs.Blending.{All-limited, blended_more}
use Rattle.talk_mix.proofs.blend.blended.Goals as goal

pub loop-k-preserved : goal.loop-k-preserved
loop-k-preserved c =
    let fits : FitsSigned w16 c.limited_sum.result = search rules in
    let first : FitsSigned w16 (get_or c.samples-a.result.now c.loop-k.k (pos 0)) = search rules in
    let second : FitsSigned w16 (get_or c.samples-b.result.now c.loop-k.k (pos 0)) = search rules in
    let third : FitsSigned w16 (get_or c.samples-c.result.now c.loop-k.k (pos 0)) = search rules in
    let sum = simp to_z-of_z at c.limited_sum.ensures.value in
    blended_more _ _ _ _ _ _ c.loop-k.invariant c.loop-k-test.true (to_z-of_z w16 c.limited_sum.result fits ∙ rw (← c.samples-a.ensures.value, ← c.samples-b.ensures.value, ← c.samples-c.ensures.value) sum)

pub from_samples-requires : goal.from_samples-requires
from_samples-requires c =
    let sums : ℕ → ℤ = λ (k : ℕ). get_or c.args.a.now k (pos 0) +ℤ (get_or c.args.b.now k (pos 0) +ℤ get_or c.args.c.now k (pos 0)) in
    All-limited sums _ c.loop-k.invariant.long (λ k h. c.loop-k.invariant.sums k (omega arith))
