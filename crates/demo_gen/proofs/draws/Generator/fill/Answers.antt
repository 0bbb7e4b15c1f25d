use Rattle.std.proofs.Common.{arith}
use Rattle.demo_gen.proofs.Drawing.{drawn_none, drawn_more, drawn_all}
use Rattle.demo_gen.proofs.draws.Generator.fill.Goals as goal

pub loop-octet-init : goal.loop-octet-init
loop-octet-init c = drawn_none c.args.self.now.number c.args.speech.now

pub loop-octet-preserved : goal.loop-octet-preserved
loop-octet-preserved c = drawn_more _ _ _ _ _ _ c.loop-octet.invariant (omega arith) c.draw.ensures.number c.draw.ensures.top

pub returns-clause-number : goal.returns-clause-number
returns-clause-number c =
    (drawn_all _ _ _ _ _ c.loop-octet.invariant c.loop-octet-test.false c.loop-octet.auto.octet-index-end c.loop-octet.auto.speech).0

pub returns-clause-drawn : goal.returns-clause-drawn
returns-clause-drawn c =
    (drawn_all _ _ _ _ _ c.loop-octet.invariant c.loop-octet-test.false c.loop-octet.auto.octet-index-end c.loop-octet.auto.speech).1
