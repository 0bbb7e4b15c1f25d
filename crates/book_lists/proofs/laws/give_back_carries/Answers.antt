use Rattle.book_lists.proofs.Claiming.{back-carries}
use Rattle.book_lists.proofs.laws.give_back_carries.Goals as goal

pub returns : goal.returns
returns c = back-carries
