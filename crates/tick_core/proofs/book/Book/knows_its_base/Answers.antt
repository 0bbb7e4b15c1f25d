use Rattle.tick_core.proofs.Bases.{stands-each, stands-only}
use Rattle.tick_core.proofs.book.Book.knows_its_base.Goals as goal

pub returns-clause-each : goal.returns-clause-each
returns-clause-each c = stands-each c.args.self.now

pub returns-clause-only : goal.returns-clause-only
returns-clause-only c = stands-only c.args.self.now
