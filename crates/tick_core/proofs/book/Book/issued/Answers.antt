use Rattle.std.proofs.Common.{◌∙◌}
use Rattle.tick_core.proofs.Twins.{issued-all}
use Rattle.tick_core.proofs.book.Book.issued.Goals as goal

pub returns : goal.returns
returns c = λ core s. c.issued.ensures ∙ issued-all c.args.self.now core s
