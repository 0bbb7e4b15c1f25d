use Rattle.rtp_head.proofs.Written.{rtp-written}
use Rattle.rtp_head.proofs.write.Goals as goal

pub returns-clause-parsed : goal.returns-clause-parsed
returns-clause-parsed c = λ payload. rtp-written _ c.args.head.now payload c.octets_of.ensures.octets c.octets_of.ensures.fits
