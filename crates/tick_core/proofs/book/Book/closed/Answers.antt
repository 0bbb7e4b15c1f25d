use Rattle.std.proofs.Common.{◌∙◌}
use Rattle.tick_core.proofs.Twins.{closed-all}
use Rattle.tick_core.proofs.book.Book.closed.Goals as goal

pub returns : goal.returns
returns c = λ core s. c.closed.ensures ∙ closed-all c.args.self.now core s
