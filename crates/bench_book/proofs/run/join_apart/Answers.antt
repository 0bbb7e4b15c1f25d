use Rattle.std.proofs.Common.{◌≡◌, ◌+◌, ℕ, sym, subst, arith}
use Rattle.tick_core.specs.declared.book.Book.{Book}
use Rattle.bench_book.specs.Ticks.{StandsSettled, GoesOn}
use Rattle.bench_book.proofs.Steps.{goes-join, goes-refl, goes-tick, goes-settled}
use Rattle.bench_book.proofs.run.join_apart.Goals as goal
use Rattle.bench_book.proofs.run.join_apart.Goals.{then-i-eq3+in_ok-run_tick, else-i-eq3}

pub loop-i-init : goal.loop-i-init
loop-i-init c = (c.requires.settled, (0, goes-refl c.args.book.now))

pub run_tick-requires : goal.run_tick-requires
run_tick-requires c = record { settled = goes-settled 1 0 c.loop-i.book c.join.new.book c.loop-i.invariant.0 c.in_ok-join.ensures.joined }

pub loop-i-preserved : goal.loop-i-preserved
loop-i-preserved c =
    let j = c.in_ok-join.ensures.joined in
    let k = c.loop-i.invariant.1.0 in
    let s = goes-settled 1 0 c.loop-i.book c.join.new.book c.loop-i.invariant.0 j in
    let g = goes-join c.loop-i.i k c.args.book.now c.loop-i.book c.join.new.book c.loop-i.invariant.1.1 j in
    let P = λ (b : Book). StandsSettled b × ((n : ℕ) × GoesOn (c.loop-i.i + 1) n c.args.book.now b) in
    elim c.if-i-eq3.branch [
      | then-i-eq3+in_ok-run_tick w ↦
          let t = w.in_ok-run_tick.ensures.tick in
          subst P (sym w.book-is) (goes-settled 0 1 c.join.new.book w.run_tick.new.book s t, (k + 1, goes-tick (c.loop-i.i + 1) k c.args.book.now c.join.new.book w.run_tick.new.book g t))
      | else-i-eq3 w ↦ subst P (sym w.book-is) (s, (k, g))
    ]

pub returns : goal.returns
returns c =
    let e : c.loop-i.i ≡ c.args.listeners = omega (arith, c.loop-i.auto.i-end, c.loop-i-test.false) in
    let k = c.loop-i.invariant.1.0 in
    record { joined = (k, subst (λ (n : ℕ). GoesOn n k c.args.book.now c.loop-i.book) e c.loop-i.invariant.1.1) }
