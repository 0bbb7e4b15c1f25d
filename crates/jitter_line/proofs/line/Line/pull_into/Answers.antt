use Rattle.std.proofs.Common.{◌∙◌, sym, subst}
use Rattle.jitter_line.specs.Kept.{Kept}
use Rattle.jitter_line.specs.Standing.{Stands}
use Rattle.jitter_line.proofs.Saying.{said_some, said_none, said_empty, stands_empty, is_empty, all_samples}
use Rattle.jitter_line.proofs.line.Line.pull_into.Goals as goal

pub returns-in_default-clause-said : goal.returns-in_default-clause-said
returns-in_default-clause-said c h stands =
    said_none _ h (subst (λ (l : Kept). Stands l h) (sym c.self.view_is) stands) c.in_default.is

pub from_samples-requires : goal.from_samples-requires
from_samples-requires c = all_samples _ _ c.self.invariant.samples c.take_frame.ensures.long c.take_frame.ensures.samples

pub returns-clause-said : goal.returns-clause-said
returns-clause-said c h stands =
    c.from_samples.ensures
    ∙ said_some _ h _ _ (subst (λ (l : Kept). Stands l h) (sym c.self.view_is) stands) c.in-Some.is c.take_frame.ensures.long c.take_frame.ensures.samples

pub returns-then-is_empty-clause-said : goal.returns-then-is_empty-clause-said
returns-then-is_empty-clause-said c h stands =
    said_empty _ h _ (subst (λ (l : Kept). Stands l h) (sym c.self.view_is) stands) c.in-Some.is (is_empty _ _ c.is_empty.ensures c.if-is_empty.true)

pub returns-then-is_empty-clause-stands : goal.returns-then-is_empty-clause-stands
returns-then-is_empty-clause-stands c h stands =
    stands_empty _ h _ (subst (λ (l : Kept). Stands l h) (sym c.self.view_is) stands) c.in-Some.is (is_empty _ _ c.is_empty.ensures c.if-is_empty.true)
