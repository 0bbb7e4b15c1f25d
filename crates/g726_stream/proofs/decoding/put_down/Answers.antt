-- Each sample puts two octets down.
use Rattle.std.proofs.Common.{◌≡◌, ◌∙◌, refl, ap, ◌%◌, ◌/◌, pos, get_or, w16, rules, arith}
use Rattle.std.proofs.lemmas.Int.{to_z-of_z}
use mir.Val.{SFits}
use Rattle.g726_stream.proofs.CodeLists.{PutDown, none_down, one_down, all_down}
use Rattle.g726_stream.proofs.decoding.put_down.Goals as goal

pub loop-i-init : goal.loop-i-init
loop-i-init c = none_down c.args.samples.now c.args.octets.now c.told-octets

pub loop-i-preserved : goal.loop-i-preserved
loop-i-preserved c =
    let fits : SFits w16 (get_or c.args.samples.now c.loop-i.i (pos 0)) = search rules in
    let whole_is = simp to_z-of_z at c.whole_of-whole.ensures in
    one_down c.args.samples.now c.loop-i.i c.loop-i.octets c.low_half.result c.high_half.result (get_or c.args.samples.now c.loop-i.i (pos 0))
    c.loop-i.invariant (omega (arith, c.told-samples)) (omega arith) refl
    (c.low_half.ensures ∙ ap (λ w. w % 256) whole_is) (c.high_half.ensures ∙ ap (λ w. w / 256) whole_is)

pub returns : goal.returns
returns c =
    let end : c.loop-i.i ≡ 160 = omega arith in
    let is : PutDown c.args.samples.now 160 c.loop-i.octets = rw (← end) c.loop-i.invariant in
    all_down c.args.samples.now c.loop-i.octets is c.told-samples
