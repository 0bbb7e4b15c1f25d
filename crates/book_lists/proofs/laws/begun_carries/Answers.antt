use Rattle.book_lists.proofs.Joining.{begun-carries}
use Rattle.book_lists.proofs.laws.begun_carries.Goals as goal

pub returns : goal.returns
returns c = begun-carries
