use Rattle.std.proofs.Common.{◌≡◌, ◌∙◌, ◌*◌, ◌^◌, pos, add-one, ap, sym, subst, length, map, rules, arith, w16, FitsSigned}
use Rattle.std.specs.List.{All}
use Rattle.std.proofs.lemmas.Grind.{common_steps}
use Rattle.std.proofs.lemmas.Int.{to_z-of_z}
use Rattle.g726_bits.specs.Rates.{bits_of}
use Rattle.g726_bits.specs.Packing.{number, digits}
use Rattle.talk_726.specs.Decoding.{place_of}
use Rattle.talk_726.specs.Kept.{IsPlace}
use Rattle.talk_726.proofs.Placing.{bits-few, placed-none, placed-more, placed-all, places-within, codes-whole}
use Rattle.talk_726.proofs.places.read_places.Goals as goal

pub loop-i-init : goal.loop-i-init
loop-i-init c =
    let long : length c.unpack_all.new.codes ≡ length c.args.places.now = grind (arith, common_steps) in
    placed-none _ _ (sym long)

pub overflow_add-codes : goal.overflow_add-codes
overflow_add-codes c =
    let few = bits-few c.args.rate in
    let code = c.unpack_all.ensures.small c.loop-i.i 0 c.loop-i-test.true in
    omega arith

pub loop-i-preserved : goal.loop-i-preserved
loop-i-preserved c =
    let fits : FitsSigned w16 c.from.result = search rules in
    rw (to_z-of_z w16 c.from.result fits)
    (placed-more _ _ _ _ c.loop-i.invariant c.loop-i-test.true (c.from.ensures ∙ ap pos (add-one _)))

pub returns-clause-places : goal.returns-clause-places
returns-clause-places c =
    let long : length c.unpack_all.new.codes ≡ length c.args.places.now = grind (arith, common_steps) in
    let whole : bits_of c.args.rate * length c.unpack_all.new.codes ≡ 8 * length c.args.octets.now =
    ap (λ n. bits_of c.args.rate * n) long ∙ c.requires.count in
    placed-all _ _ _ c.loop-i.invariant (omega arith)
    ∙ ap (map place_of) (codes-whole c.args.rate _ _ whole
    (c.unpack_all.ensures.value ∙ ap (λ n. digits (2 ^ bits_of c.args.rate) n (number 256 c.args.octets.now)) (sym c.unpack_all.auto.codes)))

pub returns-clause-range : goal.returns-clause-range
returns-clause-range c =
    subst (All (IsPlace c.args.rate)) (sym (placed-all _ _ _ c.loop-i.invariant (omega arith))) (places-within c.args.rate _ c.unpack_all.ensures.small)
