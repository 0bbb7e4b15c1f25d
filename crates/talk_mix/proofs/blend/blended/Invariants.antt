use Rattle.talk_mix.proofs.Blending.{Blended}
use Rattle.talk_mix.proofs.blend.blended.Given as goal

abbrev pub invariant-loop-k : goal.invariant-loop-k
invariant-loop-k l = Blended l.a-2 l.b-2 l.c-2 l.samples l.k
