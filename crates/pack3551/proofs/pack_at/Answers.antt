-- After the last eight codes no bit waits.
use Rattle.std.proofs.Common.{◌≡◌, ◌∙◌, ap, ◌*◌, ◌^◌, length, rules, arith}
use Rattle.g726_bits.specs.Packing.{packed, number, digits}
use Rattle.pack3551.proofs.Steps.{none_packed, packs_at, all_packed}
use Rattle.g726_bits.specs.Rates.{bits_of}
use Rattle.pack3551.proofs.Numbers.{length-digits}
use Rattle.pack3551.proofs.RoundTrips.{packed-unpacked}
use Rattle.pack3551.proofs.pack_at.Goals as goal

pub loop-eighth-init : goal.loop-eighth-init
loop-eighth-init c = none_packed c.bits-bits.result c.args.codes.now

pub returns-clause-value : goal.returns-clause-value
unfolding packed
returns-clause-value c =
    let codes = c.args.codes.now in
    let bits = c.bits-bits.result in
    let long : length codes ≡ 160 = search rules in
    let p = c.loop-eighth.packer in
    let at_end = packs_at bits codes (8 * c.loop-eighth.eighth) 160 c.loop-eighth.octets p.count p.value p.width (omega arith) c.loop-eighth.invariant in
    let whole = all_packed bits codes c.loop-eighth.octets c.loop-eighth.packer.count c.loop-eighth.packer.value c.loop-eighth.packer.width at_end long (search rules) in
    whole.1 ∙ ap (λ n. digits 256 (20 * n) (number (2 ^ n) codes)) c.bits-bits.ensures

pub returns-clause-back : goal.returns-clause-back
returns-clause-back c = λ octets long small e.
    returns-clause-value c ∙ (ap (packed c.args.rate) e ∙ packed-unpacked c.args.rate octets long small)

pub returns-clause-size : goal.returns-clause-size
unfolding packed
returns-clause-size c =
    ap length (returns-clause-value c) ∙ length-digits 256 (20 * bits_of c.args.rate) (number (2 ^ bits_of c.args.rate) c.args.codes.now)
