use Rattle.book_lists.proofs.Publishing.{publish-carries}
use Rattle.book_lists.proofs.laws.publish_carries.Goals as goal

pub returns : goal.returns
returns c = publish-carries
