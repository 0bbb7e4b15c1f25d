-- The sum is within 19 bits, so nothing wraps.
use Rattle.std.proofs.Common.{arith}
use Rattle.std.proofs.lemmas.Int.{ints}
use Rattle.g726_predict.proofs.sums.three_more.Goals as goal

pub overflow_add-result-3 : goal.overflow_add-result-3
overflow_add-result-3 c = omega (arith, ints)

pub returns : goal.returns
returns c = omega (arith, ints)
