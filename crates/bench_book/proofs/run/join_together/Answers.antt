use Rattle.std.proofs.Common.{◌≡◌, ℕ, subst, arith}
use Rattle.bench_book.specs.Ticks.{GoesOn}
use Rattle.bench_book.proofs.Steps.{goes-join, goes-settled}
use Rattle.bench_book.proofs.run.join_together.Goals as goal

pub loop-i-preserved : goal.loop-i-preserved
loop-i-preserved c =
    let j = c.in_ok-join.ensures.joined in
    (goes-settled 1 0 c.loop-i.book c.join.new.book c.loop-i.invariant.0 j, goes-join c.loop-i.i 0 c.args.book.now c.loop-i.book c.join.new.book c.loop-i.invariant.1 j)

pub returns : goal.returns
returns c =
    let e : c.loop-i.i ≡ c.args.listeners = omega (arith, c.loop-i.auto.i-end, c.loop-i-test.false) in
    record { joined = subst (λ (n : ℕ). GoesOn n 0 c.args.book.now c.loop-i.book) e c.loop-i.invariant.1 }
