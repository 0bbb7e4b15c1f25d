use Rattle.std.proofs.Common.{◌∙◌, ap, sym}
use Rattle.talk_726.specs.Decoding.{state_past, samples_for}
use Rattle.talk_726.proofs.Tracking.{moves, says}
use Rattle.talk_726.proofs.places.say.Goals as goal

pub returns-then-are_codes-clause-state : goal.returns-then-are_codes-clause-state
returns-then-are_codes-clause-state c =
    c.follow_frame.ensures.after
    ∙ sym (moves c.args.rate c.args.state c.are_codes.new.codes)
    ∙ ap (state_past c.args.rate c.args.state) (sym (c.are_codes.ensures.codes c.if-are_codes.true))

pub returns-then-are_codes-clause-samples : goal.returns-then-are_codes-clause-samples
returns-then-are_codes-clause-samples c =
    c.follow_frame.ensures.samples
    ∙ sym (says c.args.rate c.args.state c.are_codes.new.codes)
    ∙ ap (samples_for c.args.rate c.args.state) (sym (c.are_codes.ensures.codes c.if-are_codes.true))
