-- Each code keeps the sum; after the last one no octet is left.
use Rattle.std.proofs.Common.{◌≡◌, ◌∙◌, ◌*◌, ◌^◌, refl, ap, subst, length, rules, arith}
use Rattle.g726_bits.specs.Packing.{number, digits}
use Rattle.pack3551.proofs.Unpacking.{Unpacks, none_taken, fills, splits, all_unpacked}
use Rattle.pack3551.proofs.unpack_all.Goals as goal

pub loop-i-init : goal.loop-i-init
loop-i-init c = record { state = none_taken c.bits-bits.result c.args.octets.now c.args.codes.now; narrow = omega arith }

pub split-code-requires-clause-value : goal.split-code-requires-clause-value
split-code-requires-clause-value c =
    let count = length c.args.codes.now in
    let whole : c.bits-bits.result * count ≡ 8 * length c.args.octets.now = ap (λ n. n * count) c.bits-bits.ensures ∙ c.requires in
    let is = fills c.bits-bits.result c.args.octets.now count c.loop-i.i c.loop-i.codes c.loop-i.unpacker c.refill-full.result c.loop-i.invariant
    (omega arith) whole (search rules) (search rules) c.refill-full.ensures in
    is.state.below

pub loop-i-preserved : goal.loop-i-preserved
loop-i-preserved c =
    let count = length c.args.codes.now in
    let whole : c.bits-bits.result * count ≡ 8 * length c.args.octets.now = ap (λ n. n * count) c.bits-bits.ensures ∙ c.requires in
    let is = fills c.bits-bits.result c.args.octets.now count c.loop-i.i c.loop-i.codes c.loop-i.unpacker c.refill-full.result c.loop-i.invariant
    (omega arith) whole (search rules) (search rules) c.refill-full.ensures in
    splits c.bits-bits.result c.args.octets.now count c.loop-i.i c.loop-i.codes c.refill-full.result c.split-code.result.1 c.split-code.result.0 _ is
    (omega arith) c.split-code.ensures.code refl c.split-code.ensures.rest

pub returns-clause-value : goal.returns-clause-value
returns-clause-value c =
    let bits = c.bits-bits.result in
    let octets = c.args.octets.now in
    let count = length c.args.codes.now in
    let whole : bits * count ≡ 8 * length octets = ap (λ n. n * count) c.bits-bits.ensures ∙ c.requires in
    let end : c.loop-i.i ≡ count = omega arith in
    let l = c.loop-i in
    let at_end = subst (λ i. Unpacks bits octets count i l.codes l.unpacker.taken l.unpacker.value l.unpacker.width) end l.invariant.state in
    all_unpacked bits count octets c.loop-i.codes c.loop-i.unpacker.taken c.loop-i.unpacker.value c.loop-i.unpacker.width at_end whole ∙
    ap (λ n. digits (2 ^ n) count (number 256 octets)) c.bits-bits.ensures
