use Rattle.std.proofs.Common.{sym, ◌∙◌, refl, arith}
use Rattle.std.proofs.lemmas.Result.{err_from_is_err_and}
use Rattle.rtcp_pack.proofs.Compounds.{first_faulty, first_taken, none_left, packet_faulty, packet_next, packets_end, some_left}
use Rattle.rtcp_pack.proofs.compound.check.Goals as goal

pub returns-in_err-first_len : goal.returns-in_err-first_len
returns-in_err-first_len c =
    let p = err_from_is_err_and c.from_residual.result c.from_residual.ensures.1 in
    rw (p.1, p.2) (sym (first_faulty c.in_err-first_len.field-0.0 c.args.bytes.now (sym c.packet_len.ensures.len ∙ c.in_err-first_len.was)))

pub loop-rest-init : goal.loop-rest-init
loop-rest-init c = record {
  same = rw c.split_at.ensures.back
      (first_taken c.in_ok-first_len.first_len c.args.bytes.now (sym c.packet_len.ensures.len ∙ c.in_ok-first_len.was));
  few = omega (arith, c.in_ok-first_len.ensures.within, c.split_at.ensures.back_len);
}

pub returns-in_err-len : goal.returns-in_err-len
returns-in_err-len c =
    let p = err_from_is_err_and c.from_residual-in_err-len.result c.from_residual-in_err-len.ensures.1 in
    rw (p.1, p.2) (sym (packet_faulty c.loop-rest.count c.in_err-len.field-0.0 c.loop-rest.rest.now (some_left _ c.loop-rest-test.ensures) (sym c.packet_len-in-loop-rest.ensures.len ∙ c.in_err-len.was))
    ∙ c.loop-rest.invariant.same)

pub loop-rest-preserved : goal.loop-rest-preserved
loop-rest-preserved c = record {
  same = rw c.split_at-in-loop-rest.ensures.back
      (sym (packet_next c.loop-rest.count c.in_ok-len.len _ c.loop-rest.rest.now (some_left _ c.loop-rest-test.ensures) (omega (arith, c.in_ok-len.ensures.within)) refl (sym c.packet_len-in-loop-rest.ensures.len ∙ c.in_ok-len.was))
      ∙ c.loop-rest.invariant.same);
  few = omega (arith, c.in_ok-len.ensures.within, c.split_at-in-loop-rest.ensures.back_len, c.loop-rest.invariant.few);
}

pub returns : goal.returns
returns c = sym (packets_end c.loop-rest.count c.loop-rest.rest.now (none_left _ c.loop-rest-test.ensures)) ∙ c.loop-rest.invariant.same
