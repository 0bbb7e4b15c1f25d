use Rattle.std.proofs.Common.{◌≡◌, ◌⊎◌, inl, inr, List, length, map, All, sym, ap, subst}
use Rattle.std.specs.Prelude.{Err}
use Rattle.edge_io.specs.Told.{Rose, Grows}
use Rattle.rooms_run.specs.declared.ends.RoomEnd.{RoomEnd}
use Rattle.rooms_run.specs.declared.status.RoomsStatus.{RoomsStatus}
use Rattle.rooms_run.specs.CommandLine.{list_name}
use Rattle.rooms_run.specs.Reported.{AreEnds, Reported}
use Rattle.rooms_run.specs.Texts.{rooms_text}
use Rattle.rooms_run.proofs.Ending.{caused-ok, caused-err, complete-ends, long-ends, fault-ends, said-reported, told-reported, listed-fronts}
use Rattle.rooms_run.proofs.calls.rooms.Goals as goal

pub returns-in-Ok-clause-complete : goal.returns-in-Ok-clause-complete
returns-in-Ok-clause-complete g c =
    let name = list_name c.args.words.now in
    let file = g.F.Shelf.file c.args.shelf.now in
    let F = Rose (g.F.Shelf.faults c.args.shelf.now) (g.F.Shelf.faults c.work.new.shelf) in
    let W = Rose (g.O.Outs.faults c.args.outs.now) (g.O.Outs.faults c.work.new.outs) ⊎ Rose (g.E.Sink.faults c.args.err.now) (g.E.Sink.faults c.finish.new.err) in
    let caused = caused-ok name file c.finish.result F W c.in-Ok.ensures.good c.finish.ensures.ends (λ q. inr (c.finish.ensures.write q)) in
    complete-ends name file c.finish.result F W caused

pub returns-in-Ok-clause-long_only : goal.returns-in-Ok-clause-long_only
returns-in-Ok-clause-long_only g c =
    let name = list_name c.args.words.now in
    let file = g.F.Shelf.file c.args.shelf.now in
    let F = Rose (g.F.Shelf.faults c.args.shelf.now) (g.F.Shelf.faults c.work.new.shelf) in
    let W = Rose (g.O.Outs.faults c.args.outs.now) (g.O.Outs.faults c.work.new.outs) ⊎ Rose (g.E.Sink.faults c.args.err.now) (g.E.Sink.faults c.finish.new.err) in
    let caused = caused-ok name file c.finish.result F W c.in-Ok.ensures.good c.finish.ensures.ends (λ q. inr (c.finish.ensures.write q)) in
    long-ends name file F W c.finish.result caused

pub returns-in-Ok-clause-fault_only : goal.returns-in-Ok-clause-fault_only
returns-in-Ok-clause-fault_only g c =
    let name = list_name c.args.words.now in
    let file = g.F.Shelf.file c.args.shelf.now in
    let F = Rose (g.F.Shelf.faults c.args.shelf.now) (g.F.Shelf.faults c.work.new.shelf) in
    let W = Rose (g.O.Outs.faults c.args.outs.now) (g.O.Outs.faults c.work.new.outs) ⊎ Rose (g.E.Sink.faults c.args.err.now) (g.E.Sink.faults c.finish.new.err) in
    let caused = caused-ok name file c.finish.result F W c.in-Ok.ensures.good c.finish.ensures.ends (λ q. inr (c.finish.ensures.write q)) in
    fault-ends name file F W c.finish.result caused

pub returns-in-Err-clause-complete : goal.returns-in-Err-clause-complete
returns-in-Err-clause-complete g c =
    let name = list_name c.args.words.now in
    let file = g.F.Shelf.file c.args.shelf.now in
    let F = Rose (g.F.Shelf.faults c.args.shelf.now) (g.F.Shelf.faults c.work.new.shelf) in
    let W = Rose (g.O.Outs.faults c.args.outs.now) (g.O.Outs.faults c.work.new.outs) ⊎ Rose (g.E.Sink.faults c.args.err.now) (g.E.Sink.faults c.report.new.err) in
    let caused = caused-err name file c.report.result c.in-Err.status F W c.report.ensures.same c.in-Err.ensures.not_done (λ q. c.in-Err.ensures.usage (ap Err q))
    (λ q. c.in-Err.ensures.long (ap Err q)) c.in-Err.ensures.fault (λ q. c.in-Err.ensures.good_so_far (ap Err q)) (λ q. c.in-Err.ensures.read (ap Err q))
    (λ q. inl (c.in-Err.ensures.write (ap Err q))) in
    complete-ends name file c.report.result F W caused

pub returns-in-Err-clause-long_only : goal.returns-in-Err-clause-long_only
returns-in-Err-clause-long_only g c =
    let name = list_name c.args.words.now in
    let file = g.F.Shelf.file c.args.shelf.now in
    let F = Rose (g.F.Shelf.faults c.args.shelf.now) (g.F.Shelf.faults c.work.new.shelf) in
    let W = Rose (g.O.Outs.faults c.args.outs.now) (g.O.Outs.faults c.work.new.outs) ⊎ Rose (g.E.Sink.faults c.args.err.now) (g.E.Sink.faults c.report.new.err) in
    let caused = caused-err name file c.report.result c.in-Err.status F W c.report.ensures.same c.in-Err.ensures.not_done (λ q. c.in-Err.ensures.usage (ap Err q))
    (λ q. c.in-Err.ensures.long (ap Err q)) c.in-Err.ensures.fault (λ q. c.in-Err.ensures.good_so_far (ap Err q)) (λ q. c.in-Err.ensures.read (ap Err q))
    (λ q. inl (c.in-Err.ensures.write (ap Err q))) in
    long-ends name file F W c.report.result caused

pub returns-in-Err-clause-fault_only : goal.returns-in-Err-clause-fault_only
returns-in-Err-clause-fault_only g c =
    let name = list_name c.args.words.now in
    let file = g.F.Shelf.file c.args.shelf.now in
    let F = Rose (g.F.Shelf.faults c.args.shelf.now) (g.F.Shelf.faults c.work.new.shelf) in
    let W = Rose (g.O.Outs.faults c.args.outs.now) (g.O.Outs.faults c.work.new.outs) ⊎ Rose (g.E.Sink.faults c.args.err.now) (g.E.Sink.faults c.report.new.err) in
    let caused = caused-err name file c.report.result c.in-Err.status F W c.report.ensures.same c.in-Err.ensures.not_done (λ q. c.in-Err.ensures.usage (ap Err q))
    (λ q. c.in-Err.ensures.long (ap Err q)) c.in-Err.ensures.fault (λ q. c.in-Err.ensures.good_so_far (ap Err q)) (λ q. c.in-Err.ensures.read (ap Err q))
    (λ q. inl (c.in-Err.ensures.write (ap Err q))) in
    fault-ends name file F W c.report.result caused

pub returns-in-Ok-clause-told : goal.returns-in-Ok-clause-told
returns-in-Ok-clause-told g c = λ done. (
  map (λ o. o.end) c.in-Ok.outcomes.items,
  c.in-Ok.ensures.ends,
  subst (λ os. Grows (g.E.Sink.held c.args.err.now) (g.E.Sink.held c.finish.new.err) (rooms_text 1 (map (λ o. o.end) os))) c.as_slice.ensures.value (c.finish.ensures.done done),
)

pub returns-in-Ok-clause-fronts : goal.returns-in-Ok-clause-fronts
returns-in-Ok-clause-fronts g c = λ end.
    listed-fronts (list_name c.args.words.now) (g.F.Shelf.file c.args.shelf.now) (g.O.Outs.held c.args.outs.now) (g.O.Outs.held c.work.new.outs) c.in-Ok.ensures.answers

pub returns-in-Ok-clause-reported : goal.returns-in-Ok-clause-reported
returns-in-Ok-clause-reported g c =
    said-reported (λ ends. AreEnds (list_name c.args.words.now) (g.F.Shelf.file c.args.shelf.now) ends) _ _ _ (map (λ o. o.end) c.as_slice.result.now) c.finish.result
    (subst (λ os. AreEnds (list_name c.args.words.now) (g.F.Shelf.file c.args.shelf.now) (map (λ o. o.end) os)) (sym c.as_slice.ensures.value) c.in-Ok.ensures.ends)
    c.finish.ensures.ends c.finish.ensures.done c.finish.ensures.fault c.finish.ensures.rose

pub returns-in-Err-clause-reported : goal.returns-in-Err-clause-reported
returns-in-Err-clause-reported g c =
    subst (λ (r : RoomsStatus). Reported (λ ends. AreEnds (list_name c.args.words.now) (g.F.Shelf.file c.args.shelf.now) ends) r (g.E.Sink.held c.args.err.now) (g.E.Sink.held c.report.new.err)
    (Rose (g.E.Sink.faults c.args.err.now) (g.E.Sink.faults c.report.new.err) ⊎ Rose (g.E.Sink.lacks c.args.err.now) (g.E.Sink.lacks c.report.new.err))) (sym c.report.ensures.same)
    (told-reported (λ ends. AreEnds (list_name c.args.words.now) (g.F.Shelf.file c.args.shelf.now) ends) _ _ _ c.in-Err.status c.in-Err.ensures.not_done c.report.ensures.line)
