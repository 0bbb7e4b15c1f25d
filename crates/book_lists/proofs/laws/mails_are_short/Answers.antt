use Rattle.book_lists.proofs.MailingSteps.{mails-short, mails-sent}
use Rattle.book_lists.proofs.laws.mails_are_short.Goals as goal

pub returns : goal.returns
returns c = record { short = mails-short; sent = mails-sent }
