use Rattle.tick_core.proofs.Knowing.{publishes-known}
use Rattle.tick_core.proofs.tests.publish_one.Goals as goal

pub returns : goal.returns
returns c = record { known = publishes-known _ c.publish.result _ c.requires.known.0 (c.publish.ensures.publishes c.requires.known.0 c.requires.known.1) }
