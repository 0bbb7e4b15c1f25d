-- The state after a step is in the ranges.
use Rattle.std.proofs.Common.{◌∙◌, sym, ap, subst}
use Rattle.g726_bits.specs.Ranges.{IsSound}
use Rattle.g726_bits.specs.Step.{state_after}
use Rattle.g726_bits.proofs.Runs.{state_after_sound}
use Rattle.g726_codec.proofs.Parts.{joined_from, joined_is}
use Rattle.g726_codec.proofs.decoder.follow.Goals as goal

pub invariant_of-after : goal.invariant_of-after
invariant_of-after c =
    let before : IsSound c.args.state = subst IsSound c.state.view_is c.state.invariant in
    let next_is = c.follow_step-sample.ensures.next ∙ ap (λ s. state_after c.args.rate s c.args.code) (joined_from c.begin-predictor.result _ _ _ c.begin-predictor.ensures.state c.state.view_is) in
    subst IsSound (sym (joined_is c.follow_step-sample.new.predictor _ _ _ c.predictor.ensures next_is)) (state_after_sound c.args.rate c.args.state c.args.code before)
