use Rattle.conference_spec.specs.Feed.{collects}
use Rattle.book_lists.proofs.MailingCollect.{mails-collected}
use Rattle.book_lists.proofs.laws.collect_hands_out.Goals as goal

pub returns : goal.returns
returns c = record {
  sent = λ coder d front v rests queue issued ms rs car z q. (mails-collected coder (collects d.feed) d.runs front v d.feed ms rs car.opens z q).0;
  mails = λ coder d front v rests queue issued ms rs car z q. (mails-collected coder (collects d.feed) d.runs front v d.feed ms rs car.opens z q).1;
}
