use Rattle.std.proofs.Common.{◌∙◌, refl}
use Rattle.desk_run.proofs.Results.{on-err}
use Rattle.desk_run.proofs.Texts.{grows_none}
use Rattle.desk_run.proofs.Remaining.{as-many, rest-lawful, rest-more, rest-front}
use Rattle.desk_run.proofs.leftovers.write_each.Goals as goal

pub loop-i-init : goal.loop-i-init
loop-i-init g c = record {
  same_sink = refl;
  grows = λ f s. grows_none _;
  many = λ f s. as-many _ c.rests-i-end.result f c.rests-i-end.ensures s;
  counts = refl;
}

pub write_packet-requires-clause-lawful : goal.write_packet-requires-clause-lawful
write_packet-requires-clause-lawful g c = rest-lawful _ c.loop-i.i c.rest.result c.rest.ensures c.requires.even

pub returns-in_err-write_packet-clause-fault : goal.returns-in_err-write_packet-clause-fault
returns-in_err-write_packet-clause-fault g c =
    on-err c.from_residual.result _
    (rest-front _ _ _ _ c.args.ticks c.loop-i.i c.rest.result c.rest.ensures c.loop-i.invariant.grows c.in_err-write_packet.ensures.fault)

pub loop-i-preserved : goal.loop-i-preserved
loop-i-preserved g c = record {
  same_sink = c.in_ok-write_packet.ensures.same_sink ∙ c.loop-i.invariant.same_sink;
  grows = rest-more _ _ _ _ c.args.ticks c.loop-i.i c.rest.result c.rest.ensures c.loop-i.invariant.grows c.in_ok-write_packet.ensures.whole;
  many = c.loop-i.invariant.many;
  counts = c.in_ok-write_packet.ensures.counts ∙ c.loop-i.invariant.counts;
}
