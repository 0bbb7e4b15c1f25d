use Rattle.demo_gen.proofs.Sending.{written_once, written_twice}
use Rattle.demo_gen.proofs.packets.write_turn.Goals as goal

pub returns-in_ok-write_record-2-clause-written : goal.returns-in_ok-write_record-2-clause-written
returns-in_ok-write_record-2-clause-written c =
    written_twice c.args.turn _ c.packet_of-packet.result _ c.write_record.new.sink.octets _ c.if-comes_twice.ensures c.packet_of-packet.ensures.octets
    c.in_ok-write_record.ensures c.in_ok-write_record-2.ensures

pub returns-else-comes_twice-clause-written : goal.returns-else-comes_twice-clause-written
returns-else-comes_twice-clause-written c =
    written_once c.args.turn _ c.packet_of-packet.result _ _ c.if-comes_twice.ensures c.packet_of-packet.ensures.octets c.in_ok-write_record.ensures
