use Rattle.std.proofs.Common.{◌∙◌}
use Rattle.tick_core.proofs.Bounds.{log-modest}
use Rattle.tick_core.proofs.Twins.{entries-all}
use Rattle.tick_core.proofs.book.Book.fed.Goals as goal

pub returns : goal.returns
returns c = λ core s. c.len.ensures (log-modest c.args.self.now s.on s.is) ∙ entries-all c.args.self.now core s
