use Rattle.book_lists.proofs.MailingStays.{mails-stays}
use Rattle.book_lists.proofs.laws.stays_are_in_mails.Goals as goal

pub returns : goal.returns
returns c = mails-stays
