use Rattle.conference_spec.specs.declared.Entry.TheVariants.{End}
use Rattle.conference_spec.specs.Codec.{g726}
use Rattle.conference_spec.specs.Machine.{Enters, next}
use Rattle.tick_core.proofs.tests.end.Goals as goal

pub returns : goal.returns
returns c = (next g726 c.requires.0 (Enters End), c.end.ensures.end c.requires.0 c.requires.1)
