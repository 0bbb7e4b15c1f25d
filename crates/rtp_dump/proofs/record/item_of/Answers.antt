use Rattle.std.proofs.Common.{rules}
use Rattle.rtp_dump.proofs.Numbers.{record_spelled}
use Rattle.rtp_dump.proofs.record.item_of.Goals as goal

pub returns-clause-spelled : goal.returns-clause-spelled
returns-clause-spelled c =
    record_spelled c.args.head.now c.args.octets (search rules) c.fits-head _ c.requires c.read_u16.ensures c.read_u32.ensures (search rules)
