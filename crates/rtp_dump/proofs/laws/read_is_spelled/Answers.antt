use Rattle.rtp_dump.proofs.CaptureLaws.{each_octet, read_spelled}
use Rattle.rtp_dump.proofs.laws.read_is_spelled.Goals as goal

pub returns : goal.returns
returns c = λ octets each. read_spelled octets (each_octet octets each)
