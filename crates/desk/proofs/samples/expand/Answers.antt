use Rattle.std.proofs.Common.{ℕ, ◌*◌, ◌∙◌, arith, refl, subst}
use Rattle.desk.proofs.Expanding.{Expanding, expanding_none, expanding_more, expanding_four, expanding_all, expanding_range}
use Rattle.desk.proofs.samples.expand.Goals as goal

pub loop-k-init : goal.loop-k-init
loop-k-init c = expanding_none _ _ _

pub loop-k-preserved : goal.loop-k-preserved
loop-k-preserved c =
    expanding_four _ _ _ _ _ _ _ c.loop-k.k c.loop-k.invariant (omega arith) (c.loop-k.auto.samples ∙ c.requires)
    c.expand_at.ensures.value c.expand_at.ensures.range c.expand_at-in-loop-k.ensures.value c.expand_at-in-loop-k.ensures.range
    c.expand_at-in-loop-k-2.ensures.value c.expand_at-in-loop-k-2.ensures.range c.expand_at-in-loop-k-3.ensures.value c.expand_at-in-loop-k-3.ensures.range

pub loop-i-init : goal.loop-i-init
loop-i-init c =
    subst (λ (n : ℕ). Expanding c.args.law c.args.payload.now c.loop-k.samples (4 * n)) (omega arith) c.loop-k.invariant

pub loop-i-preserved : goal.loop-i-preserved
loop-i-preserved c =
    rw c.expand_at-in-loop-i.ensures.value
    (expanding_more _ _ _ _ _ c.loop-i.invariant c.loop-i-test.true (c.loop-i.auto.samples ∙ c.loop-k.auto.samples ∙ c.requires) refl c.expand_at-in-loop-i.ensures.range)

pub returns-clause-values : goal.returns-clause-values
returns-clause-values c = expanding_all _ _ _ _ c.loop-i.invariant c.loop-i-test.false (omega arith) (c.loop-i.auto.samples ∙ c.loop-k.auto.samples ∙ c.requires)

pub returns-clause-range : goal.returns-clause-range
returns-clause-range c = expanding_range _ _ _ _ c.loop-i.invariant (omega arith)
