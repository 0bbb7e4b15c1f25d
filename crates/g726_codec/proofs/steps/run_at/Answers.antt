-- Each sample pushes its code and moves the state.
use Rattle.std.proofs.Common.{◌≡◌, sym, subst, pos, get_or, w16, rules, arith}
use Rattle.std.proofs.lemmas.Int.{to_z-of_z}
use mir.Val.{SFits}
use Rattle.g726_bits.specs.State.{CodecState}
use Rattle.g726_bits.specs.Ranges.{IsSound}
use Rattle.g726_bits.specs.Encoder.{codes_of, after_samples}
use Rattle.g726_bits.proofs.Runs.{after_sound}
use Rattle.g726_codec.specs.Joined.{joined}
use Rattle.g726_codec.proofs.Parts.{Ran, joined_from, joined_is, none_ran, ran_on, all_ran}
use Rattle.g726_codec.proofs.steps.run_at.Goals as goal

pub loop-i-init : goal.loop-i-init
loop-i-init c = record {
  ran = none_ran c.args.rate c.args.before _ c.args.samples.now c.args.codes.now
      (joined_from c.begin-predictor.result _ _ _ c.begin-predictor.ensures.state c.before-2.view_is) c.told-codes;
  counted = c.begin-predictor.ensures.steps;
}

pub loop-i-preserved : goal.loop-i-preserved
loop-i-preserved c =
    let fits : SFits w16 (get_or c.args.samples.now c.loop-i.i (pos 0)) = search rules in
    let code_is = simp to_z-of_z at c.step.ensures.code in
    let next_is = simp to_z-of_z at c.step.ensures.next in
    record {
      ran = ran_on c.args.rate c.args.before c.args.samples.now c.loop-i.i (joined c.loop-i.predictor c.loop-i.scale) (joined c.step.new.predictor c.step.new.scale) c.loop-i.codes c.step.result
          c.loop-i.invariant.ran (omega arith) (omega arith) code_is next_is;
      counted = omega (arith, c.step.ensures.steps, c.loop-i.invariant.counted);
    }

-- what the loop ends with
ran_whole : (c : goal.After-predictor) → (joined c.loop-i.predictor c.loop-i.scale ≡ after_samples c.args.rate c.args.before c.args.samples.now) × (c.loop-i.codes ≡ codes_of c.args.rate c.args.before c.args.samples.now)
ran_whole c =
    let end : c.loop-i.i ≡ 160 = omega arith in
    let is : Ran c.args.rate c.args.before c.args.samples.now 160 (joined c.loop-i.predictor c.loop-i.scale) c.loop-i.codes = rw (← end) c.loop-i.invariant.ran in
    all_ran c.args.rate c.args.before c.args.samples.now _ c.loop-i.codes is c.told-samples

pub returns-clause-state : goal.returns-clause-state
returns-clause-state c = joined_is c.loop-i.predictor _ _ _ c.predictor.ensures (ran_whole c).0

pub returns-clause-codes : goal.returns-clause-codes
returns-clause-codes c = (ran_whole c).1

pub invariant_of-result : goal.invariant_of-result
invariant_of-result c =
    let before : IsSound c.args.before = subst IsSound c.before-2.view_is c.before-2.invariant in
    subst IsSound (sym (returns-clause-state c)) (after_sound c.args.rate c.args.before c.args.samples.now before)
