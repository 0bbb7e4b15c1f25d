use Rattle.std.proofs.Common.{◌≡◌, ◌+◌, ◌*◌, ℕ, subst, arith, ap, ◌∙◌}
use Rattle.bench_book.specs.Ticks.{GoesOn, crowd}
use Rattle.bench_book.proofs.Steps.{goes-tick, goes-still, goes-settled, one-more}
use Rattle.bench_book.proofs.run.run_ticks.Goals as goal

pub run_tick-requires : goal.run_tick-requires
run_tick-requires c = record { settled = c.loop.invariant.0 }

pub overflow_add-packets : goal.overflow_add-packets
overflow_add-packets c = omega (arith, c.loop.invariant.3, c.in_ok-packets.ensures.few, c.loop-test.true, c.requires.ticks)

pub loop-preserved : goal.loop-preserved
loop-preserved c =
    let t = c.in_ok-packets.ensures.tick in
    let f = c.forget.ensures.forgot in
    let inv = c.loop.invariant in
    let ran = c.run_tick.new.book in
    let settled = goes-settled 0 1 c.loop.book ran inv.0 t in (
      goes-settled 0 0 ran c.forget.new.book settled f,
      goes-still 0 (c.loop.counter + 1) c.args.book.now ran c.forget.new.book (goes-tick 0 c.loop.counter c.args.book.now c.loop.book ran inv.1 t) f,
      (λ k s u.
          let p = inv.1 k s u in
          let n = c.in_ok-packets.ensures.packets p.0 p.1 p.2.settled in
          one-more c.loop.packets c.in_ok-packets.field-0 c.loop.counter (crowd k) (inv.2 k s u) (omega (arith, n, p.2.crowd'))),
      omega (arith, inv.3, c.in_ok-packets.ensures.few),
    )

pub overflow_sub-runs : goal.overflow_sub-runs
overflow_sub-runs c =
    let s = c.requires.settled in
    let p = c.loop.invariant.1 s.0 s.1 s.2 in
    omega (arith, c.issued-before.ensures s.0 s.1, c.issued.ensures p.0 p.1, p.2.issued)

pub returns-clause-ticks : goal.returns-clause-ticks
returns-clause-ticks c =
    let e : c.loop.counter ≡ c.args.ticks = omega (arith, c.loop.auto.counter-end, c.loop-test.false) in
    subst (λ (n : ℕ). GoesOn 0 n c.args.book.now c.loop.book) e c.loop.invariant.1

pub returns-clause-packets : goal.returns-clause-packets
returns-clause-packets c = λ k s u.
    let e : c.loop.counter ≡ c.args.ticks = omega (arith, c.loop.auto.counter-end, c.loop-test.false) in
    c.loop.invariant.2 k s u ∙ ap (λ (n : ℕ). n * crowd k) e

pub forget-requires : goal.forget-requires
forget-requires c =
    record { settled = goes-settled 0 1 c.loop.book c.run_tick.new.book c.loop.invariant.0 c.in_ok-packets.ensures.tick }
