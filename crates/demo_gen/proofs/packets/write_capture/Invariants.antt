use Rattle.std.proofs.Common.{◌++◌}
use Rattle.rtp_dump.specs.Writing.{output_head}
use Rattle.demo_gen.specs.Turns.{turns_before}
use Rattle.demo_gen.proofs.Sending.{Sent}
use Rattle.demo_gen.proofs.packets.write_capture.Given as goal

abbrev pub invariant-loop-tick : goal.invariant-loop-tick
invariant-loop-tick l = Sent l.number (l.fn.sink.octets ++ output_head) (turns_before l.tick) l.generator.number l.sink.octets
