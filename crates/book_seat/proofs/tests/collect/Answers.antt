use Rattle.std.proofs.Common.{ap, refl}
use Rattle.conference_spec.specs.Feed.{ended}
use Rattle.book_seat.proofs.tests.collect.Goals as goal

pub returns-in-Ok-clause-open : goal.returns-in-Ok-clause-open
returns-in-Ok-clause-open g c = ap ended (c.in-Ok.ensures.ok c.args.desk.now.view.seen refl).1
