-- Each place has its sample, and all of them are in the range.
use Rattle.std.proofs.Common.{◌≡◌, ◌∙◌, ◌/◌, refl, sym, pos, length, w16, rules, arith}
use Rattle.std.proofs.lemmas.Int.{to_z-of_z}
use Rattle.std.proofs.lemmas.List.Elements.{All-replicate}
use Rattle.g726_bits.specs.Ranges.{IsSample}
use mir.Val.{SFits}
use Rattle.g726_stream.proofs.SampleLists.{samples_at}
use Rattle.g726_stream.proofs.FrameLists.{Built, one_built, all_built}
use Rattle.g726_stream.proofs.samples.frame_of.Goals as goal

pub loop-i-init : goal.loop-i-init
loop-i-init c = record { same = refl; within = All-replicate IsSample 160 (pos 0) (search rules) }

pub loop-i-preserved : goal.loop-i-preserved
loop-i-preserved c =
    let octets = c.args.octets.now in
    let fits : SFits w16 c.fourth_of.result = search rules in
    let same = to_z-of_z w16 c.fourth_of.result fits in
    rw same
    (one_built octets c.loop-i.i c.loop-i.samples c.fourth_of.result (omega arith) (omega arith) c.loop-i.invariant
    (c.fourth_of.ensures.value ∙ sym (samples_at octets c.loop-i.i (omega arith))) c.fourth_of.ensures.within)

pub returns : goal.returns
returns c =
    let end : c.loop-i.i ≡ length c.args.octets.now / 2 = omega arith in
    let is : Built c.args.octets.now (length c.args.octets.now / 2) c.loop-i.samples = rw (← end) c.loop-i.invariant in
    c.from_samples.ensures ∙ all_built c.args.octets.now c.loop-i.samples is

pub from_samples-requires : goal.from_samples-requires
from_samples-requires c = c.loop-i.invariant.within
