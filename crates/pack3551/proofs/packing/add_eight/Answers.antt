-- Each code keeps the sum, and its place is one further.
use Rattle.std.proofs.Common.{◌+◌, rules, arith}
use Rattle.pack3551.proofs.Steps.{packs_next, packs_at}
use Rattle.pack3551.proofs.packing.add_eight.Goals as goal

pub loop-k-preserved : goal.loop-k-preserved
loop-k-preserved c =
    let after = c.add_code-packer.new.octets in
    let next = c.add_code-packer.result in
    packs_at c.args.bits c.args.codes.now (c.args.from + c.loop-k.k + 1) (c.args.from + (c.loop-k.k + 1)) after next.count next.value next.width (omega arith)
    (packs_next c.args.bits c.args.codes.now (c.args.from + c.loop-k.k) c.loop-k.octets c.loop-k.packer after next
    c.loop-k.invariant (omega arith) (search rules) (search rules) (search rules) c.add_code-packer.ensures.octets c.add_code-packer.ensures.packer)
