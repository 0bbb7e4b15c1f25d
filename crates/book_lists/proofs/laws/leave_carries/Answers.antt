use Rattle.book_lists.proofs.Joining.{leave-carries}
use Rattle.book_lists.proofs.laws.leave_carries.Goals as goal

pub returns : goal.returns
returns c = leave-carries
