use Rattle.std.proofs.Common.{◌≡◌, sym, subst}
use Rattle.std.specs.Prelude.{Ok, Err, IsSome}
use Rattle.edge_io.specs.Told.{Rose}
use Rattle.conference_spec.specs.Feed.{Feed}
use Rattle.session_spec.specs.Captured.{head_fault}
use Rattle.desk_run.specs.BookSide.{StandsFor}
use Rattle.desk_run.specs.Whole.{Given, Traces}
use Rattle.bridge_calls.specs.declared.status.Status.{Status}
use Rattle.bridge_calls.specs.CommandLine.{roster_of}
use Rattle.bridge_calls.specs.Ends.{Ends, CallEnds, Telling}
use Rattle.bridge_calls.proofs.Faults.{headless}
use Rattle.bridge_calls.proofs.Sessions.{session-with, said-ends, told-ends}
use Rattle.bridge_calls.proofs.calls.alone.Goals as goal

pub returns-in-Ok-clause-session : goal.returns-in-Ok-clause-session
returns-in-Ok-clause-session g c =
    let t : Traces = record { left = g.S.Source.rest c.work.new.dump; old = g.K.Sink.held c.args.out.now; new = g.K.Sink.held c.work.new.out } in
    let book = λ (f : Feed). StandsFor c.work.new.book f in
    let shelf = Rose (g.F.Shelf.faults c.args.shelf.now) (g.F.Shelf.faults c.work.new.shelf) in
    let e : Telling = record {
      old = g.E.Sink.held c.args.err.now;
      new = g.E.Sink.held c.finish.new.err;
      failed = (g.E.Sink.faults c.args.err.now, g.E.Sink.faults c.finish.new.err);
      lacked = (g.E.Sink.lacks c.args.err.now, g.E.Sink.lacks c.finish.new.err);
    } in
    session-with (roster_of c.args.words.now) (g.F.Shelf.file c.args.shelf.now) (g.S.Source.rest c.args.dump.now)
    (λ (given : Given). Ends given t book shelf (Ok c.in-Ok.summary)) (λ (given : Given). CallEnds given t book shelf e c.finish.result)
    (λ given ran. said-ends given t book shelf e c.in-Ok.summary c.finish.result c.finish.ensures.ends c.finish.ensures.done c.finish.ensures.fault ran)
    c.in-Ok.ensures.session

pub returns-in-Err-clause-session : goal.returns-in-Err-clause-session
returns-in-Err-clause-session g c =
    let t : Traces = record { left = g.S.Source.rest c.work.new.dump; old = g.K.Sink.held c.args.out.now; new = g.K.Sink.held c.work.new.out } in
    let book = λ (f : Feed). StandsFor c.work.new.book f in
    let shelf = Rose (g.F.Shelf.faults c.args.shelf.now) (g.F.Shelf.faults c.work.new.shelf) in
    let e : Telling = record {
      old = g.E.Sink.held c.args.err.now;
      new = g.E.Sink.held c.report.new.err;
      failed = (g.E.Sink.faults c.args.err.now, g.E.Sink.faults c.report.new.err);
      lacked = (g.E.Sink.lacks c.args.err.now, g.E.Sink.lacks c.report.new.err);
    } in
    session-with (roster_of c.args.words.now) (g.F.Shelf.file c.args.shelf.now) (g.S.Source.rest c.args.dump.now)
    (λ (given : Given). Ends given t book shelf (Err c.in-Err.status)) (λ (given : Given). CallEnds given t book shelf e c.report.result)
    (λ given ran. subst (λ (r : Status). CallEnds given t book shelf e r) (sym c.report.ensures.same)
    (told-ends given t book shelf e c.in-Err.status c.report.ensures.line ran))
    c.in-Err.ensures.session

pub returns-in-Err-clause-no_head : goal.returns-in-Err-clause-no_head
returns-in-Err-clause-no_head g c =
    let t : Traces = record { left = g.S.Source.rest c.work.new.dump; old = g.K.Sink.held c.args.out.now; new = g.K.Sink.held c.work.new.out } in
    let book = λ (f : Feed). StandsFor c.work.new.book f in
    let rose = Rose (g.F.Shelf.faults c.args.shelf.now) (g.F.Shelf.faults c.work.new.shelf) in
    session-with (roster_of c.args.words.now) (g.F.Shelf.file c.args.shelf.now) (g.S.Source.rest c.args.dump.now)
    (λ (given : Given). Ends given t book rose (Err c.in-Err.status)) (λ (given : Given). IsSome (head_fault given.bytes) → t.new ≡ t.old)
    (λ given ends. headless given t book rose (Err c.in-Err.status) ends)
    c.in-Err.ensures.session
