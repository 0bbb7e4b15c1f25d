use Rattle.rtp_head.proofs.Found.{each_octet, parsed_spelled}
use Rattle.rtp_head.proofs.laws.parsed_is_spelled.Goals as goal

pub returns : goal.returns
returns c = λ octets parsed each found. parsed_spelled octets parsed (each_octet octets each) found
