use Rattle.std.proofs.Common.{◌≡◌, ◌∙◌, ◌+◌, ℕ, List, length, arith}
use Rattle.audit_check.specs.Sendings.{sendings_to}
use Rattle.audit_check.proofs.Handing.{one-tick}
use Rattle.audit_check.proofs.checking.take_ticks.Goals as goal

pub loop-packets-preserved : goal.loop-packets-preserved
loop-packets-preserved c =
    let n = c.args.compare.now.ticks in
    let t = c.loop-packets.compare.ticks in
    let i = c.loop-packets.packets-index in
    let so_far = c.loop-packets.invariant.so_far in
    let one = c.take_tick.ensures.ticks in
    record {
      out = c.take_tick.ensures.out ∙ c.loop-packets.invariant.out;
      so_far = omega arith;
      begun = (_, c.take_tick.ensures.compared c.loop-packets.invariant.begun.0 c.loop-packets.invariant.begun.1);
      compared = λ h are was.
          one-tick c.take_tick.new.self n t c.take_tick.new.self.ticks i (length c.args.ticks.now) h c.args.ticks.now c.packets-item.result are
          c.loop-packets-test.true c.packets-item.is so_far one
          (c.take_tick.ensures.compared (sendings_to t h) (c.loop-packets.invariant.compared h are was));
    }
