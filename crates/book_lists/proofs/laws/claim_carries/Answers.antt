use Rattle.book_lists.proofs.Claiming.{claim-carries, next-ticket}
use Rattle.book_lists.proofs.laws.claim_carries.Goals as goal

pub returns : goal.returns
returns c = record {
  next = λ coder d newer vs v rests t queue issued ht k car. (next-ticket coder d newer vs v t queue ht k car.runs car.queue).1;
  after = claim-carries;
}
