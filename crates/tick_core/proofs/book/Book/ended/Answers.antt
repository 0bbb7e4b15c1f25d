use Rattle.std.proofs.Common.{◌∙◌}
use Rattle.tick_core.proofs.Twins.{ended-all}
use Rattle.tick_core.proofs.book.Book.ended.Goals as goal

pub returns : goal.returns
returns c = λ core s. c.ended.ensures ∙ ended-all c.args.self.now core s
