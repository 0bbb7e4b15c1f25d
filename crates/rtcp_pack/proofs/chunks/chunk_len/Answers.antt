use Rattle.std.proofs.Common.{refl, sym, ◌∙◌, arith}
use Rattle.rtcp_pack.proofs.Ends.{chunk_endless, chunk_ends, end_cut, end_past, ended_behind, item_passed}
use Rattle.rtcp_pack.proofs.chunks.chunk_len.Goals as goal

pub loop-place-init : goal.loop-place-init
loop-place-init c = sym (ended_behind 4 c.args.body.now)

pub returns-then-body-place-eq-END-clause-len : goal.returns-then-body-place-eq-END-clause-len
returns-then-body-place-eq-END-clause-len c =
    chunk_ends c.args.body.now c.loop-place.place c.loop-place.invariant (omega arith) c.if-body-place-eq-END.true

pub returns-then-place-body-clause-len : goal.returns-then-place-body-clause-len
returns-then-place-body-clause-len c =
    chunk_endless c.args.body.now c.loop-place.place c.loop-place.invariant (end_cut c.args.body.now c.loop-place.place c.if-place-body.true c.if-body-place-eq-END.false)

pub loop-place-preserved : goal.loop-place-preserved
loop-place-preserved c =
    sym (item_passed c.args.body.now c.loop-place.place c.from.result _ (omega arith) c.if-body-place-eq-END.false c.from.ensures refl)
    ∙ c.loop-place.invariant

pub returns-clause-len : goal.returns-clause-len
returns-clause-len c =
    chunk_endless c.args.body.now c.loop-place.place c.loop-place.invariant (end_past c.args.body.now c.loop-place.place (omega arith))
