use Rattle.book_lists.proofs.Claiming.{count-waiting}
use Rattle.book_lists.proofs.laws.queue_counts.Goals as goal

pub returns : goal.returns
returns c = λ coder d vs rests queue issued k car. count-waiting coder d vs queue k car.runs car.queue
