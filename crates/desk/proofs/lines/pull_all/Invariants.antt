use Rattle.desk.proofs.Turned.{Turning}
use Rattle.desk.proofs.lines.pull_all.Given as goal

abbrev pub invariant-loop-place : goal.invariant-loop-place
invariant-loop-place l = Turning l.fn.channels.items l.channels.items l.voices.items l.count l.place
