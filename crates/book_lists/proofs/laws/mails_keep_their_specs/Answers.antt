use Rattle.book_lists.proofs.MailingSpecs.{packets-walked, specs-walked, specs-goes}
use Rattle.book_lists.proofs.laws.mails_keep_their_specs.Goals as goal

pub returns : goal.returns
returns c = record { count = packets-walked; collect = specs-walked; leave = specs-goes }
