use Rattle.std.proofs.Common.{refl}
use Rattle.desk_run.proofs.BookFeed.{new-stands}
use Rattle.audit_check.proofs.checking.Checking.new.Goals as goal

pub returns-clause-checks : goal.returns-clause-checks
returns-clause-checks c = ((new-stands c.new.result c.new.ensures.begun, refl, refl), c.new-2.ensures.ticks, c.new-2.ensures.compared)
