use Rattle.tick_core.proofs.Knowing.{gives-known}
use Rattle.tick_core.proofs.tests.give_one.Goals as goal

pub returns : goal.returns
returns c = record { known = gives-known _ c.give_back.result _ c.requires.known.0 (c.give_back.ensures.gives_back c.requires.known.0 c.requires.known.1) }
