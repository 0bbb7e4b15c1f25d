use Rattle.book_lists.proofs.Joining.{join-carries}
use Rattle.book_lists.proofs.laws.join_carries.Goals as goal

pub returns : goal.returns
returns c = join-carries
