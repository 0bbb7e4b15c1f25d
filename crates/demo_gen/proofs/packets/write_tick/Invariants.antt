use Rattle.std.proofs.Common.{◌-◌}
use Rattle.demo_gen.specs.Turns.{turns_in}
use Rattle.demo_gen.proofs.Sending.{Sent}
use Rattle.demo_gen.proofs.packets.write_tick.Given as goal

abbrev pub invariant-loop-member : goal.invariant-loop-member
invariant-loop-member l = Sent l.fn.generator.number l.fn.sink.octets (turns_in (l.member - 1) l.tick) l.generator.number l.sink.octets
