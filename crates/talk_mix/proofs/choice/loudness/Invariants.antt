use Rattle.std.proofs.Common.{◌≡◌, ◌≤◌, ◌*◌, take, sum_by, unsigned_abs}
use Rattle.talk_mix.proofs.choice.loudness.Given as goal

abbrev pub invariant-loop-sample : goal.invariant-loop-sample
invariant-loop-sample l = (l.total ≡ sum_by unsigned_abs (take l.sample-index l.sample-items)) × (l.total ≤ 32768 * l.sample-index)
