use Rattle.rtp_dump.proofs.CaptureLaws.{written_read}
use Rattle.rtp_dump.proofs.laws.written_is_read.Goals as goal

pub returns : goal.returns
returns c = written_read
