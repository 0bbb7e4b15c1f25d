use Rattle.demo_gen.proofs.Drawing.{Drawn}
use Rattle.demo_gen.proofs.draws.Generator.fill.Given as goal

abbrev pub invariant-loop-octet : goal.invariant-loop-octet
invariant-loop-octet l = Drawn l.fn.self.number l.octet-index l.self.number l.speech
