use Rattle.tick_core.proofs.Knowing.{collects-known}
use Rattle.tick_core.proofs.tests.collect_one.Goals as goal

pub returns : goal.returns
returns c = record {
  known = collects-known c.collect.result c.collect.new.self c.requires.known.0 (c.collect.ensures.collects c.requires.known.0 c.requires.known.1);
}
