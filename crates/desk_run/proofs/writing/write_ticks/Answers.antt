use Rattle.std.proofs.Common.{◌+◌, ◌∙◌, ap, sym, arith, length}
use Rattle.conference_spec.specs.Codec.{g726}
use Rattle.conference_spec.specs.Packets.{sent}
use Rattle.desk_run.proofs.Results.{on-err}
use Rattle.desk_run.proofs.Handing.{sent-at, front-longer}
use Rattle.desk_run.proofs.writing.write_ticks.Goals as goal

pub returns-in_err-write_tick-clause-fault : goal.returns-in_err-write_tick-clause-fault
returns-in_err-write_tick-clause-fault g c =
    let n = c.args.written.now.ticks in
    let i = c.loop-packets.packets-index in
    let so_far = c.loop-packets.invariant.so_far in
    on-err c.from_residual.result _ (λ start h are was.
    let now = sent-at n (length c.args.ticks.now) i h c.args.ticks.now c.packets-item.result are c.loop-packets-test.true c.packets-item.is in
    front-longer start _ (c.loop-packets.written.ticks + 1) (n + length c.args.ticks.now) h (omega arith)
    (c.in_err-write_tick.ensures.fault start h (now ∙ ap (λ k. sent g726 k h) (sym so_far)) (c.loop-packets.invariant.whole start h are was)))

pub loop-packets-preserved : goal.loop-packets-preserved
loop-packets-preserved g c =
    let n = c.args.written.now.ticks in
    let i = c.loop-packets.packets-index in
    let so_far = c.loop-packets.invariant.so_far in
    let one = c.in_ok-write_tick.ensures.one in
    record {
      same_sink = c.in_ok-write_tick.ensures.same_sink ∙ c.loop-packets.invariant.same_sink;
      so_far = omega arith;
      whole = λ start h are was.
          let now = sent-at n (length c.args.ticks.now) i h c.args.ticks.now c.packets-item.result are c.loop-packets-test.true c.packets-item.is in
          c.in_ok-write_tick.ensures.whole start h (now ∙ ap (λ k. sent g726 k h) (sym so_far)) (c.loop-packets.invariant.whole start h are was);
      counts = c.in_ok-write_tick.ensures.counts ∙ c.loop-packets.invariant.counts;
    }
