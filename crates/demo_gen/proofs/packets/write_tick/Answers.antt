use Rattle.std.proofs.Common.{◌∙◌, sym, arith}
use Rattle.demo_gen.proofs.Sending.{asked_none, asked_talking, asked_silent, asked_all}
use Rattle.demo_gen.proofs.packets.write_tick.Goals as goal
use Rattle.demo_gen.proofs.packets.write_tick.Goals.{then-talks+in_ok-write_turn, else-talks}

pub loop-member-init : goal.loop-member-init
loop-member-init c = asked_none c.args.generator.now.number c.args.sink.now.octets c.args.tick

pub loop-member-preserved : goal.loop-member-preserved
loop-member-preserved c =
    elim c.if-talks.branch [
      | then-talks+in_ok-write_turn w ↦
          rw (w.generator-is, w.sink-is)
          (asked_talking _ _ c.args.tick c.loop-member.member _ _ _ _ c.loop-member.invariant c.loop-member.auto.member
          (sym c.talks.ensures ∙ w.if-talks.true) w.in_ok-write_turn.ensures.drawn w.in_ok-write_turn.ensures.written)
      | else-talks w ↦
          rw (w.generator-is, w.sink-is)
          (asked_silent _ _ c.args.tick c.loop-member.member _ _ c.loop-member.invariant c.loop-member.auto.member (sym c.talks.ensures ∙ w.if-talks.false))
    ]

pub returns-clause-drawn : goal.returns-clause-drawn
returns-clause-drawn c = (asked_all _ _ _ _ _ _ c.loop-member.invariant (omega arith)).number_is

pub returns-clause-written : goal.returns-clause-written
returns-clause-written c = (asked_all _ _ _ _ _ _ c.loop-member.invariant (omega arith)).written
