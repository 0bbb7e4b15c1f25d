use Rattle.tick_core.proofs.Knowing.{gives-known}
use Rattle.tick_core.proofs.Taken.{give_back-taken, give_back-back}
use Rattle.tick_core.proofs.calls.BookTurns.give_back.Goals as goal

pub returns-clause-ready : goal.returns-clause-ready
returns-clause-ready c = gives-known c.args.job c.give_back.result _ c.requires.ready.0 (c.give_back.ensures.gives_back c.requires.ready.0 c.requires.ready.1)

pub returns-clause-taken : goal.returns-clause-taken
returns-clause-taken c n t = give_back-taken c.args.job c.give_back.result c.args.self.now _ n t c.give_back.ensures.gives_back

pub returns-clause-comes_back : goal.returns-clause-comes_back
returns-clause-comes_back c = give_back-back c.args.job c.give_back.result _ c.requires.ready.0 (c.give_back.ensures.gives_back c.requires.ready.0 c.requires.ready.1)
