use Rattle.rtp_head.proofs.Spelled.{spelled_parsed}
use Rattle.rtp_head.proofs.laws.spelled_is_parsed.Goals as goal

pub returns : goal.returns
returns c = spelled_parsed
