-- Each code moves the state and puts its sample down.
use Rattle.std.proofs.Common.{◌≡◌, sym, subst, get_or, w16, rules, arith}
use Rattle.std.proofs.lemmas.Int.{to_z-of_z}
use mir.Val.{SFits}
use Rattle.std.specs.List.{All}
use Rattle.g726_bits.specs.Ranges.{IsSample, IsSound}
use Rattle.g726_codec.specs.Decoder.{after_codes, samples_of}
use Rattle.g726_codec.specs.Joined.{joined}
use Rattle.g726_codec.proofs.Parts.{joined_from, joined_is}
use Rattle.g726_codec.proofs.Decoding.{Heard, after_codes_sound, samples_within, none_heard, one_heard, all_heard}
use Rattle.g726_codec.proofs.decoder.follow_at.Goals as goal

pub loop-i-init : goal.loop-i-init
loop-i-init c = record {
  heard = none_heard c.args.rate c.args.before _ c.args.codes.now c.args.samples.now
      (joined_from c.begin-predictor.result _ _ _ c.begin-predictor.ensures.state c.before-2.view_is) c.told-samples;
  counted = c.begin-predictor.ensures.steps;
}

pub loop-i-preserved : goal.loop-i-preserved
loop-i-preserved c =
    let fits : SFits w16 c.follow_step.result = search rules in
    record {
      heard = rw (to_z-of_z w16 c.follow_step.result fits)
          (one_heard c.args.rate c.args.before c.args.codes.now c.loop-i.i (joined c.loop-i.predictor c.loop-i.scale) (joined c.follow_step.new.predictor c.follow_step.new.scale) c.loop-i.samples c.follow_step.result
          c.loop-i.invariant.heard (omega arith) (omega arith) c.follow_step.ensures.next c.follow_step.ensures.sample);
      counted = omega (arith, c.follow_step.ensures.steps, c.loop-i.invariant.counted);
    }

-- what the loop ends with
heard_whole : (c : goal.After-predictor) → (joined c.loop-i.predictor c.loop-i.scale ≡ after_codes c.args.rate c.args.before c.args.codes.now) × (c.loop-i.samples ≡ samples_of c.args.rate c.args.before c.args.codes.now)
heard_whole c =
    let end : c.loop-i.i ≡ 160 = omega arith in
    let is : Heard c.args.rate c.args.before c.args.codes.now 160 (joined c.loop-i.predictor c.loop-i.scale) c.loop-i.samples = rw (← end) c.loop-i.invariant.heard in
    all_heard c.args.rate c.args.before c.args.codes.now _ c.loop-i.samples is c.told-codes

pub returns-clause-after : goal.returns-clause-after
returns-clause-after c = joined_is c.loop-i.predictor _ _ _ c.predictor.ensures (heard_whole c).0

pub returns-clause-samples : goal.returns-clause-samples
returns-clause-samples c = (heard_whole c).1

pub returns-clause-within : goal.returns-clause-within
returns-clause-within c = subst (All IsSample) (sym (heard_whole c).1) (samples_within c.args.rate c.args.before c.args.codes.now)

pub invariant_of-result : goal.invariant_of-result
invariant_of-result c =
    let before : IsSound c.args.before = subst IsSound c.before-2.view_is c.before-2.invariant in
    subst IsSound (sym (returns-clause-after c)) (after_codes_sound c.args.rate c.args.before c.args.codes.now before)
