use Rattle.tick_core.proofs.Knowing.{claims-known}
use Rattle.tick_core.proofs.Taken.{claim-taken, tells-over}
use Rattle.tick_core.proofs.calls.BookTurns.claim.Goals as goal

pub returns-clause-ready : goal.returns-clause-ready
returns-clause-ready c = claims-known c.claim.result _ c.requires.ready.0 (c.claim.ensures.claims c.requires.ready.0 c.requires.ready.1)

pub returns-clause-over : goal.returns-clause-over
returns-clause-over c = tells-over c.claim.result _ c.requires.ready.0 (c.claim.ensures.claims c.requires.ready.0 c.requires.ready.1)

pub returns-clause-taken : goal.returns-clause-taken
returns-clause-taken c n t = claim-taken c.claim.result c.args.self.now _ n t c.claim.ensures.claims
