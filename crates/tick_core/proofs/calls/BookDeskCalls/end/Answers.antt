use Rattle.tick_core.proofs.Feeds.{ended-once}
use Rattle.tick_core.proofs.calls.BookDeskCalls.end.Goals as goal

pub returns-clause-end : goal.returns-clause-end
returns-clause-end c = λ h w. ended-once c.args.self.now c.end.new.self c.end.ensures.end h w
