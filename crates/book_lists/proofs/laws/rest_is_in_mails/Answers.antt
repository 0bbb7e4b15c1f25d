use Rattle.book_lists.proofs.MailingSteps.{rest-last}
use Rattle.book_lists.proofs.laws.rest_is_in_mails.Goals as goal

pub returns : goal.returns
returns c = rest-last
