use Rattle.tick_core.proofs.Knowing.{publishes-known}
use Rattle.tick_core.proofs.Taken.{publish-taken, taken-fits, publish-back}
use Rattle.tick_core.proofs.calls.BookTurns.publish.Goals as goal

pub returns-clause-ready : goal.returns-clause-ready
returns-clause-ready c = publishes-known c.args.done c.publish.result _ c.requires.ready.0 (c.publish.ensures.publishes c.requires.ready.0 c.requires.ready.1)

pub returns-clause-taken : goal.returns-clause-taken
returns-clause-taken c n t = publish-taken c.args.done c.publish.result c.args.self.now _ n t c.publish.ensures.publishes

pub returns-clause-fits : goal.returns-clause-fits
returns-clause-fits c n t = taken-fits _ n t

pub returns-clause-comes_back : goal.returns-clause-comes_back
returns-clause-comes_back c = publish-back c.args.done c.publish.result _ c.requires.ready.0 (c.publish.ensures.publishes c.requires.ready.0 c.requires.ready.1)
