use Rattle.std.proofs.Common.{◌≡◌, sym, subst, refl, get_or, pos, rules, arith, w16, FitsSigned}
use Rattle.std.specs.List.{All}
use Rattle.std.proofs.lemmas.Int.{to_z-of_z}
use Rattle.g726_bits.specs.Ranges.{IsSample}
use Rattle.talk_726.specs.Decoding.{state_past, samples_for}
use Rattle.talk_726.proofs.Placing.{said-none, said-more, said-all, samples-within}
use Rattle.talk_726.proofs.places.say_each.Goals as goal

pub loop-i-init : goal.loop-i-init
loop-i-init c = said-none c.args.rate c.args.state _ c.args.places.now _ refl c.told-samples

pub loop-i-preserved : goal.loop-i-preserved
loop-i-preserved c =
    let fits : FitsSigned w16 c.follow_place-next.result.sample = search rules in
    let held : FitsSigned w16 (get_or c.args.places.now c.loop-i.i (pos 0)) = search rules in
    let after_is = simp to_z-of_z at c.follow_place-next.ensures.after in
    let sample_is = simp to_z-of_z at c.follow_place-next.ensures.sample in
    rw (to_z-of_z w16 c.follow_place-next.result.sample fits)
    (said-more c.args.rate c.args.state c.args.places.now c.loop-i.i c.loop-i.state c.follow_place-next.result.after c.loop-i.samples c.follow_place-next.result.sample
    c.loop-i.invariant (omega arith) c.loop-i-test.true after_is sample_is)

whole : (c : goal.After-loop-i) → (c.loop-i.state ≡ state_past c.args.rate c.args.state c.args.places.now) × (c.loop-i.samples ≡ samples_for c.args.rate c.args.state c.args.places.now)
whole c = said-all c.args.rate c.args.state c.args.places.now c.loop-i.i _ _ c.loop-i.invariant (omega arith) c.told-places

pub returns-clause-state : goal.returns-clause-state
returns-clause-state c = (whole c).0

pub returns-clause-samples : goal.returns-clause-samples
returns-clause-samples c = (whole c).1

pub returns-clause-within : goal.returns-clause-within
returns-clause-within c = subst (All IsSample) (sym (whole c).1) (samples-within c.args.rate c.args.state c.args.places.now)
