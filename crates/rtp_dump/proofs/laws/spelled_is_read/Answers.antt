use Rattle.rtp_dump.proofs.CaptureLaws.{spelled_read}
use Rattle.rtp_dump.proofs.laws.spelled_is_read.Goals as goal

pub returns : goal.returns
returns c = spelled_read
