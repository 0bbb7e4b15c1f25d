use Rattle.book_lists.proofs.Joining.{cut-carries}
use Rattle.book_lists.proofs.laws.cut_carries.Goals as goal

pub returns : goal.returns
returns c = cut-carries
