use Rattle.std.proofs.Common.{◌∙◌}
use Rattle.tick_core.proofs.Twins.{since-all}
use Rattle.tick_core.proofs.book.Book.kept.Goals as goal

pub returns : goal.returns
returns c = λ core s. c.kept.ensures ∙ since-all c.args.self.now core s
