use Rattle.std.proofs.Common.{◌≡◌, ◌≢◌, ◌∙◌, ◌<◌, ℕ, List, length, get_or, sym, subst, ap, arith}
use Rattle.std.proofs.lemmas.Option.{slice_get_within, get_or_from_slice_get}
use Rattle.edge_io.specs.Told.{Grows, GrowsByFront}
use Rattle.rooms_run.specs.declared.closing.Outcome.{Outcome}
use Rattle.rooms_run.proofs.Answered.{one-put, all-put, front-put, others-put}
use Rattle.rooms_run.proofs.Ending.{on-err}
use Rattle.rooms_run.proofs.putting.put_all.Goals as goal

pub returns-in_err-put-clause-fronts : goal.returns-in_err-put-clause-fronts
returns-in_err-put-clause-fronts g c =
    let list = c.args.list.now in
    let o : Outcome = get_or c.args.outcomes.now c.loop-i.i c.index-outcomes-i.result in
    let there : get_or c.args.outcomes.now c.loop-i.i o ≡ o = ap (λ (x : Outcome). get_or c.args.outcomes.now c.loop-i.i x) (sym c.index-outcomes-i.is) in
    let n = c.room.result.now in
    let within : c.loop-i.i < length list = slice_get_within list c.loop-i.i n c.room.ensures in
    on-err c.from_residual.result _
    (front-put (g.O.Outs.held c.args.outs.now) (g.O.Outs.held c.loop-i.outs) (g.O.Outs.held c.put.new.self) list c.args.outcomes.now c.loop-i.i n o
    c.requires.apart c.requires.even within (get_or_from_slice_get list c.loop-i.i n n c.room.ensures) there c.loop-i.invariant.put
    (subst (λ (octets : List ℕ). GrowsByFront (g.O.Outs.held c.loop-i.outs n.out) (g.O.Outs.held c.put.new.self n.out) octets) c.as_slice.ensures
    (subst (λ (name : List ℕ). GrowsByFront (g.O.Outs.held c.loop-i.outs name) (g.O.Outs.held c.put.new.self name) c.as_slice.result.now) c.out.ensures c.in_err-put.ensures.fault))
    (λ other not. c.put.ensures.others other (λ e. not (e ∙ c.out.ensures))))

pub returns-in_err-put-clause-others : goal.returns-in_err-put-clause-others
returns-in_err-put-clause-others g c =
    let list = c.args.list.now in
    let n = c.room.result.now in
    others-put (g.O.Outs.held c.args.outs.now) (g.O.Outs.held c.loop-i.outs) (g.O.Outs.held c.put.new.self) list c.args.outcomes.now c.loop-i.i n
    (slice_get_within list c.loop-i.i n c.room.ensures) (get_or_from_slice_get list c.loop-i.i n n c.room.ensures) c.loop-i.invariant.put
    (λ other not. c.put.ensures.others other (λ e. not (e ∙ c.out.ensures)))

pub loop-i-preserved : goal.loop-i-preserved
loop-i-preserved g c =
    let list = c.args.list.now in
    let o : Outcome = get_or c.args.outcomes.now c.loop-i.i c.index-outcomes-i.result in
    let there : get_or c.args.outcomes.now c.loop-i.i o ≡ o = ap (λ (x : Outcome). get_or c.args.outcomes.now c.loop-i.i x) (sym c.index-outcomes-i.is) in
    let n = c.room.result.now in
    let within : c.loop-i.i < length list = slice_get_within list c.loop-i.i n c.room.ensures in
    let inside : c.loop-i.i < length c.args.outcomes.now = omega (arith, within, c.requires.even) in
    record {
      put = one-put (g.O.Outs.held c.args.outs.now) (g.O.Outs.held c.loop-i.outs) (g.O.Outs.held c.put.new.self) list c.args.outcomes.now c.loop-i.i n o
          c.requires.apart within (get_or_from_slice_get list c.loop-i.i n n c.room.ensures) inside there c.loop-i.invariant.put
          (subst (λ (octets : List ℕ). Grows (g.O.Outs.held c.loop-i.outs n.out) (g.O.Outs.held c.put.new.self n.out) octets) c.as_slice.ensures
          (subst (λ (name : List ℕ). Grows (g.O.Outs.held c.loop-i.outs name) (g.O.Outs.held c.put.new.self name) c.as_slice.result.now) c.out.ensures c.in_ok-put.ensures.whole))
          (λ other not. c.put.ensures.others other (λ e. not (e ∙ c.out.ensures)));
      counts = c.in_ok-put.ensures.counts ∙ c.loop-i.invariant.counts;
    }

pub returns-clause-whole : goal.returns-clause-whole
returns-clause-whole g c =
    all-put (g.O.Outs.held c.args.outs.now) (g.O.Outs.held c.loop-i.outs) c.args.list.now c.args.outcomes.now c.loop-i.i c.requires.even
    (omega (arith, c.loop-i-test.false, c.len-i-end.ensures)) c.loop-i.invariant.put
