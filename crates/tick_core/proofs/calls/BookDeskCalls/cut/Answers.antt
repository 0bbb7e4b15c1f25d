use Rattle.std.proofs.Common.{refl}
use Rattle.conference_spec.specs.declared.Entry.TheVariants.{Cut}
use Rattle.tick_core.proofs.Feeds.{went-on}
use Rattle.tick_core.proofs.calls.BookDeskCalls.cut.Goals as goal

pub returns-clause-cut : goal.returns-clause-cut
returns-clause-cut c = λ h w. went-on c.args.self.now c.cut.new.self Cut (λ d. refl) c.cut.ensures.cut h w
