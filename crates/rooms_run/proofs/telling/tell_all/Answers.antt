use Rattle.std.proofs.Common.{◌≡◌, ◌∙◌, get_or, sym, ap}
use Rattle.rooms_run.specs.declared.closing.Outcome.{Outcome}
use Rattle.rooms_run.proofs.Ending.{on-err}
use Rattle.rooms_run.proofs.Lines.{told-more, told-front}
use Rattle.rooms_run.proofs.telling.tell_all.Goals as goal

pub returns-in_err-tell_room-clause-front : goal.returns-in_err-tell_room-clause-front
returns-in_err-tell_room-clause-front g c =
    let o : Outcome = get_or c.args.outcomes.now c.loop-i.i c.index-outcomes-i.result in
    let there : get_or c.args.outcomes.now c.loop-i.i o ≡ o = ap (λ (x : Outcome). get_or c.args.outcomes.now c.loop-i.i x) (sym c.index-outcomes-i.is) in
    on-err c.from_residual.result _
    (told-front (g.E.Sink.held c.args.err.now) (g.E.Sink.held c.loop-i.err) (g.E.Sink.held c.tell_room.new.err) c.args.outcomes.now c.loop-i.i o
    c.loop-i-test.true there c.loop-i.invariant.told c.in_err-tell_room.ensures.front)

pub loop-i-preserved : goal.loop-i-preserved
loop-i-preserved g c =
    let o : Outcome = get_or c.args.outcomes.now c.loop-i.i c.index-outcomes-i.result in
    let there : get_or c.args.outcomes.now c.loop-i.i o ≡ o = ap (λ (x : Outcome). get_or c.args.outcomes.now c.loop-i.i x) (sym c.index-outcomes-i.is) in
    let was = c.loop-i.invariant in
    record {
      told = told-more (g.E.Sink.held c.args.err.now) (g.E.Sink.held c.loop-i.err) (g.E.Sink.held c.tell_room.new.err) c.args.outcomes.now c.loop-i.i o
          c.loop-i-test.true there was.told c.in_ok-tell_room.ensures.whole;
      counts = c.in_ok-tell_room.ensures.counts ∙ was.counts;
      lacks = c.in_ok-tell_room.ensures.lacks ∙ was.lacks;
    }
