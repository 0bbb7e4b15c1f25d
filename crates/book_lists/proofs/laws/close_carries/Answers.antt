use Rattle.book_lists.proofs.Closing.{close-carries}
use Rattle.book_lists.proofs.laws.close_carries.Goals as goal

pub returns : goal.returns
returns c = close-carries
