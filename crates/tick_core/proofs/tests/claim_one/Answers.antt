use Rattle.tick_core.proofs.Knowing.{claims-known}
use Rattle.tick_core.proofs.tests.claim_one.Goals as goal

pub returns : goal.returns
returns c = record { known = claims-known c.claim.result _ c.requires.known.0 (c.claim.ensures.claims c.requires.known.0 c.requires.known.1) }
