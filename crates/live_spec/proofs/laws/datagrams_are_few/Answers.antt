use Rattle.std.proofs.Common.{arith}
use Rattle.live_spec.proofs.Counting.{refusals-few, rounds-to-few}
use Rattle.live_spec.proofs.laws.datagrams_are_few.Goals as goal

pub returns : goal.returns
returns c = λ plan live k. omega (arith, refusals-few plan live k, rounds-to-few live k)
