use Rattle.std.proofs.Common.{◌∙◌, sym}
use Rattle.std.proofs.lemmas.Option.{get_or_from_slice_get, slice_get_within}
use Rattle.desk_run.proofs.Results.{on-err}
use Rattle.desk_run.proofs.Texts.{wrote_front, wrote_more}
use Rattle.desk_run.proofs.writing.write_packets.Goals as goal

pub returns-in_err-write_packet-clause-fault : goal.returns-in_err-write_packet-clause-fault
returns-in_err-write_packet-clause-fault g c =
    let packets = c.args.packets.now.packets in
    let i = c.loop-i.i in
    let p = c.packet_at.result.now in
    on-err c.from_residual.result _
    (wrote_front _ _ _ c.args.tick i packets p (slice_get_within packets i p c.packet_at.ensures) (sym (get_or_from_slice_get packets i p p c.packet_at.ensures))
    c.loop-i.invariant.grows c.in_err-write_packet.ensures.fault)

pub loop-i-preserved : goal.loop-i-preserved
loop-i-preserved g c =
    let packets = c.args.packets.now.packets in
    let i = c.loop-i.i in
    let p = c.packet_at.result.now in
    record {
      same_sink = c.in_ok-write_packet.ensures.same_sink ∙ c.loop-i.invariant.same_sink;
      grows =
          wrote_more _ _ _ c.args.tick i packets p (slice_get_within packets i p c.packet_at.ensures) (sym (get_or_from_slice_get packets i p p c.packet_at.ensures))
          c.loop-i.invariant.grows c.in_ok-write_packet.ensures.whole;
      counts = c.in_ok-write_packet.ensures.counts ∙ c.loop-i.invariant.counts;
    }
