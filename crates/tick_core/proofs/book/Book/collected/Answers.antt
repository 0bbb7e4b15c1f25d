use Rattle.std.proofs.Common.{◌∙◌}
use Rattle.tick_core.proofs.Twins.{collected-all}
use Rattle.tick_core.proofs.book.Book.collected.Goals as goal

pub returns : goal.returns
returns c = λ core s. c.collected.ensures ∙ collected-all c.args.self.now core s
