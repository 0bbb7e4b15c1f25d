use Rattle.book_lists.proofs.MailingSteps.{mails-joined, mails-left, mails-closed}
use Rattle.book_lists.proofs.laws.mails_go_on.Goals as goal

pub returns : goal.returns
returns c = record {
  begun = λ coder. tt;
  join = mails-joined;
  leave = mails-left;
  close = mails-closed;
  cut = λ coder k h ms z. z;
  «end» = λ coder k h ms z. z;
}
