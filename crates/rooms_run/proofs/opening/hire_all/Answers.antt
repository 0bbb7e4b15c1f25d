use Rattle.std.proofs.Common.{ℕ, ◌<◌, arith}
use Rattle.rooms_run.proofs.opening.hire_all.Goals as goal

pub hire_one-requires : goal.hire_one-requires
hire_one-requires g c = let few = c.requires.few in record { few = (c.loop.counter, omega arith, c.loop.invariant.keyed) }

pub loop-preserved : goal.loop-preserved
loop-preserved g c = record {
  count = omega (arith, c.in_ok-push.ensures.len);
  keyed = c.in_ok-hire_one.ensures.keyed c.loop.counter c.loop.invariant.keyed;
}
