use Rattle.std.proofs.Common.{rules}
use Rattle.rtp_dump.proofs.Follows.{record_follows}
use Rattle.rtp_dump.proofs.reader.Reader.next.Goals as goal

pub returns-in-Some-clause-goes_on : goal.returns-in-Some-clause-goes_on
returns-in-Some-clause-goes_on g c = record_follows _ _ _ _ c.in-Some.item (search rules) (search rules) (search rules) (search rules)
