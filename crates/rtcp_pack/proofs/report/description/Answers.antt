use Rattle.std.proofs.Common.{◌+◌, ◌-◌, ◌/◌, ◌%◌, ℕ, length, refl}
use Rattle.rtcp_pack.proofs.Sent.{described}
use Rattle.rtcp_pack.proofs.report.description.Goals as goal

pub returns : goal.returns
returns c =
    let fill : ℕ = 4 - (2 + length c.args.name.now) % 4 in
    rw (c.add-3.ensures, c.add-2.ensures, c.add.ensures, c.new-octets.ensures, c.description_head.ensures, c.as_bytes.ensures.value)
    (described c.args.ssrc ((6 + length c.args.name.now + fill) / 4) fill c.args.name.now refl refl)
