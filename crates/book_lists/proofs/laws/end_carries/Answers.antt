use Rattle.book_lists.proofs.Joining.{end-carries}
use Rattle.book_lists.proofs.laws.end_carries.Goals as goal

pub returns : goal.returns
returns c = end-carries
