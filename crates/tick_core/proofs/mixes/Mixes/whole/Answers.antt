use Rattle.std.proofs.Common.{◌∙◌}
use Rattle.tick_core.proofs.Hearing.{mix-whole}
use Rattle.tick_core.proofs.mixes.Mixes.whole.Goals as goal

pub returns-clause-mixed : goal.returns-clause-mixed
returns-clause-mixed c rows r = c.mix-made.ensures.mixed ∙ mix-whole c.args.member c.args.talkers.now c.requires

pub returns-clause-remembers : goal.returns-clause-remembers
returns-clause-remembers c rows r = record {
  made = c.mix-made.ensures.mixed ∙ mix-whole c.args.member c.args.talkers.now c.requires;
  at16 = r.at16;
  at24 = r.at24;
  at32 = r.at32;
  at40 = r.at40;
}
