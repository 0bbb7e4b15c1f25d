-- The new difference lies after the six, of which the oldest falls away.
use Rattle.std.proofs.Common.{◌∙◌, ap, arith}
use Rattle.g726_bits.specs.Step.{predictor_after}
use Rattle.g726_predict.proofs.Rows.{moved_on}
use Rattle.g726_predict.proofs.frame.FramePredictor.adapt.Goals as goal

pub returns-clause-state : goal.returns-clause-state
returns-clause-state c =
    moved_on c.args.rate c.self.inside c.adapted.inside.0.0 c.args.self.now.state c.args.neg c.args.g c.args.tr (omega (arith, ap (λ p. p.steps) c.self.view_is))
    (ap (λ p. p.state) c.self.view_is)
    (ap (λ a. a.next) c.adapted.view_is ∙ (c.adapt-adapted.ensures.next ∙ ap (λ p. predictor_after c.args.rate p c.args.neg c.args.g c.args.tr) c.predictor.ensures))
