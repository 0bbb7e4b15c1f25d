use Rattle.std.proofs.Common.{arith}
use Rattle.desk.proofs.Turned.{turning_none, turning_heard, turning_silent, turning_all}
use Rattle.desk.proofs.lines.pull_all.Goals as goal
use Rattle.desk.proofs.lines.pull_all.Goals.{then-pull, else-pull}

pub loop-place-init : goal.loop-place-init
loop-place-init c = turning_none _ _ c.requires

pub loop-place-preserved : goal.loop-place-preserved
loop-place-preserved c =
    elim c.if-pull.branch [
      | then-pull w ↦
          rw (w.channels-is, w.voices-is, w.count-is)
          (turning_heard _ _ _ _ _ c.index_mut-channel.result.now c.pull.new.self c.pull.new.frame c.loop-place.invariant (omega (arith, c.loop-place.invariant.lines)) c.index_mut-channel.ensures.value
          (record { member = c.pull.ensures.same_member; talk = c.pull.ensures.same_talk; said = rw w.if-pull.true at c.pull.ensures.said; stands = c.pull.ensures.stands }))
      | else-pull w ↦
          rw (w.channels-is, w.voices-is, w.count-is)
          (turning_silent _ _ _ _ _ c.index_mut-channel.result.now c.pull.new.self _ c.loop-place.invariant (omega (arith, c.loop-place.invariant.lines)) c.index_mut-channel.ensures.value
          (record { member = c.pull.ensures.same_member; talk = c.pull.ensures.same_talk; said = rw w.if-pull.false at c.pull.ensures.said; stands = c.pull.ensures.stands }))
    ]

pub returns-clause-turned : goal.returns-clause-turned
returns-clause-turned c = turning_all _ _ _ _ _ c.loop-place.invariant (omega arith)
