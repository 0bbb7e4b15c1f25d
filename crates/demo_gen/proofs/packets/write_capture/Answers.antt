use Rattle.std.proofs.Common.{arith}
use Rattle.demo_gen.proofs.Sending.{sent_none, sent_more, sent_all, turns_before_none, turns_before_more}
use Rattle.demo_gen.proofs.packets.write_capture.Goals as goal

pub loop-tick-init : goal.loop-tick-init
loop-tick-init c = rw (turns_before_none, c.in_ok-write_head.ensures) (sent_none _ _)

pub loop-tick-preserved : goal.loop-tick-preserved
loop-tick-preserved c =
    rw (turns_before_more c.loop-tick.tick)
    (sent_more _ _ _ _ _ _ _ _ c.loop-tick.invariant c.in_ok-write_tick.ensures.drawn c.in_ok-write_tick.ensures.written)

pub returns : goal.returns
returns c = sent_all _ _ c.loop-tick.tick _ _ c.loop-tick.invariant (omega arith)
