use Rattle.conference_spec.specs.declared.Entry.TheVariants.{Close}
use Rattle.tick_core.proofs.Knowing.{takes-known}
use Rattle.tick_core.proofs.tests.close.Goals as goal

pub returns-in-Ok : goal.returns-in-Ok
returns-in-Ok c = takes-known c.args.book.now c.close.new.self (Close c.args.tick) c.requires c.in-Ok.ensures.ok
