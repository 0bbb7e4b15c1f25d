use Rattle.std.proofs.Common.{◌≡◌, ◌⊎◌, sym, ap, subst}
use Rattle.std.specs.Prelude.{None, Ok, Err, IsSome, IfSome}
use Rattle.edge_io.specs.Told.{Rose}
use Rattle.conference_spec.specs.Feed.{Feed}
use Rattle.session_spec.specs.Captured.{head_fault}
use Rattle.desk_shared.specs.Shared.{WentAlong}
use Rattle.desk_run.specs.Whole.{Given, Traces}
use Rattle.bridge_calls.specs.declared.status.Status.{Status}
use Rattle.bridge_calls.specs.declared.status.Status.TheVariants.{Done, DumpFault}
use Rattle.bridge_calls.specs.CommandLine.{shared_roster_of}
use Rattle.bridge_calls.specs.Causes.{IsUnlessMemory}
use Rattle.bridge_calls.specs.Ends.{Ends, CallEnds, Telling, fault_met}
use Rattle.bridge_calls.proofs.BesideWorkers.{said-reported, missing-ends, long-ends, bad-line-ends, cut-only, fault-only}
use Rattle.bridge_calls.proofs.Faults.{headless}
use Rattle.bridge_calls.proofs.Sessions.{session-with, said-ends, told-ends}
use Rattle.bridge_calls.proofs.beside.shared.Goals as goal

pub returns-in-Ok-clause-session : goal.returns-in-Ok-clause-session
returns-in-Ok-clause-session g c =
    let t : Traces = record { left = g.S.Source.rest c.work_beside.new.dump; old = g.K.Sink.held c.args.out.now; new = g.K.Sink.held c.work_beside.new.out } in
    let book = λ (f : Feed). WentAlong c.work_beside.new.book f in
    let shelf = Rose (g.F.Shelf.faults c.args.shelf.now) (g.F.Shelf.faults c.work_beside.new.shelf) in
    let e : Telling = record {
      old = g.E.Sink.held c.args.err.now;
      new = g.E.Sink.held c.finish.new.err;
      failed = (g.E.Sink.faults c.args.err.now, g.E.Sink.faults c.finish.new.err);
      lacked = (g.E.Sink.lacks c.args.err.now, g.E.Sink.lacks c.finish.new.err);
    } in
    session-with (shared_roster_of c.args.words.now) (g.F.Shelf.file c.args.shelf.now) (g.S.Source.rest c.args.dump.now)
    (λ (given : Given). Ends given t book shelf (Ok c.in-Ok.summary)) (λ (given : Given). CallEnds given t book shelf e c.finish.result)
    (λ given ran. said-ends given t book shelf e c.in-Ok.summary c.finish.result c.finish.ensures.ends c.finish.ensures.done c.finish.ensures.fault ran)
    c.in-Ok.ensures.session

pub returns-in-Err-clause-session : goal.returns-in-Err-clause-session
returns-in-Err-clause-session g c =
    let t : Traces = record { left = g.S.Source.rest c.work_beside.new.dump; old = g.K.Sink.held c.args.out.now; new = g.K.Sink.held c.work_beside.new.out } in
    let book = λ (f : Feed). WentAlong c.work_beside.new.book f in
    let shelf = Rose (g.F.Shelf.faults c.args.shelf.now) (g.F.Shelf.faults c.work_beside.new.shelf) in
    let e : Telling = record {
      old = g.E.Sink.held c.args.err.now;
      new = g.E.Sink.held c.report.new.err;
      failed = (g.E.Sink.faults c.args.err.now, g.E.Sink.faults c.report.new.err);
      lacked = (g.E.Sink.lacks c.args.err.now, g.E.Sink.lacks c.report.new.err);
    } in
    session-with (shared_roster_of c.args.words.now) (g.F.Shelf.file c.args.shelf.now) (g.S.Source.rest c.args.dump.now)
    (λ (given : Given). Ends given t book shelf (Err c.in-Err.status)) (λ (given : Given). CallEnds given t book shelf e c.report.result)
    (λ given ran. subst (λ (r : Status). CallEnds given t book shelf e r) (sym c.report.ensures.same)
    (told-ends given t book shelf e c.in-Err.status c.report.ensures.line ran))
    c.in-Err.ensures.session

pub returns-in-Err-clause-no_head : goal.returns-in-Err-clause-no_head
returns-in-Err-clause-no_head g c =
    let t : Traces = record { left = g.S.Source.rest c.work_beside.new.dump; old = g.K.Sink.held c.args.out.now; new = g.K.Sink.held c.work_beside.new.out } in
    let book = λ (f : Feed). WentAlong c.work_beside.new.book f in
    let rose = Rose (g.F.Shelf.faults c.args.shelf.now) (g.F.Shelf.faults c.work_beside.new.shelf) in
    session-with (shared_roster_of c.args.words.now) (g.F.Shelf.file c.args.shelf.now) (g.S.Source.rest c.args.dump.now)
    (λ (given : Given). Ends given t book rose (Err c.in-Err.status)) (λ (given : Given). IsSome (head_fault given.bytes) → t.new ≡ t.old)
    (λ given ends. headless given t book rose (Err c.in-Err.status) ends)
    c.in-Err.ensures.session

pub returns-in-Ok-clause-reported : goal.returns-in-Ok-clause-reported
returns-in-Ok-clause-reported g c =
    said-reported _ _ _ c.in-Ok.summary c.finish.result c.finish.ensures.ends c.finish.ensures.done c.finish.ensures.fault c.finish.ensures.rose

pub returns-in-Err-clause-no_roster : goal.returns-in-Err-clause-no_roster
returns-in-Err-clause-no_roster g c =
    missing-ends (shared_roster_of c.args.words.now) (g.F.Shelf.file c.args.shelf.now) c.report.result c.in-Err.status _ c.report.ensures.same c.in-Err.ensures.no_roster

pub returns-in-Err-clause-long_only : goal.returns-in-Err-clause-long_only
returns-in-Err-clause-long_only g c =
    long-ends (shared_roster_of c.args.words.now) (g.F.Shelf.file c.args.shelf.now) c.report.result c.in-Err.status _ c.report.ensures.same c.in-Err.ensures.long_only

pub returns-in-Err-clause-roster_fault_only : goal.returns-in-Err-clause-roster_fault_only
returns-in-Err-clause-roster_fault_only g c =
    bad-line-ends (shared_roster_of c.args.words.now) (g.F.Shelf.file c.args.shelf.now) c.report.result c.in-Err.status _ c.report.ensures.same c.in-Err.ensures.roster_fault_only

pub returns-in-Err-clause-complete : goal.returns-in-Err-clause-complete
returns-in-Err-clause-complete g c =
    let t : Traces = record { left = g.S.Source.rest c.work_beside.new.dump; old = g.K.Sink.held c.args.out.now; new = g.K.Sink.held c.work_beside.new.out } in
    let book = λ (f : Feed). WentAlong c.work_beside.new.book f in
    let F = Rose (g.F.Shelf.faults c.args.shelf.now) (g.F.Shelf.faults c.work_beside.new.shelf) in
    let S = Rose (g.S.Source.faults c.args.dump.now) (g.S.Source.faults c.work_beside.new.dump) in
    let K = Rose (g.K.Sink.faults c.args.out.now) (g.K.Sink.faults c.work_beside.new.out) in
    let E = Rose (g.E.Sink.faults c.args.err.now) (g.E.Sink.faults c.report.new.err) in
    session-with (shared_roster_of c.args.words.now) (g.F.Shelf.file c.args.shelf.now) (g.S.Source.rest c.args.dump.now)
    (λ (given : Given). Ends given t book F (Err c.in-Err.status)) (λ (given : Given). fault_met given ≡ None → IsUnlessMemory c.report.result Done ⊎ F ⊎ S ⊎ K ⊎ E)
    (λ given cut. cut-only given t book F F S K E c.report.result c.in-Err.status c.report.ensures.same cut
    (λ q. c.in-Err.ensures.read (ap Err q)) (λ q. c.in-Err.ensures.write (ap Err q)))
    c.in-Err.ensures.session

pub returns-in-Err-clause-dump_fault_only : goal.returns-in-Err-clause-dump_fault_only
returns-in-Err-clause-dump_fault_only g c =
    let t : Traces = record { left = g.S.Source.rest c.work_beside.new.dump; old = g.K.Sink.held c.args.out.now; new = g.K.Sink.held c.work_beside.new.out } in
    let book = λ (f : Feed). WentAlong c.work_beside.new.book f in
    let F = Rose (g.F.Shelf.faults c.args.shelf.now) (g.F.Shelf.faults c.work_beside.new.shelf) in
    let S = Rose (g.S.Source.faults c.args.dump.now) (g.S.Source.faults c.work_beside.new.dump) in
    let K = Rose (g.K.Sink.faults c.args.out.now) (g.K.Sink.faults c.work_beside.new.out) in
    session-with (shared_roster_of c.args.words.now) (g.F.Shelf.file c.args.shelf.now) (g.S.Source.rest c.args.dump.now)
    (λ (given : Given). Ends given t book F (Err c.in-Err.status))
    (λ (given : Given). IfSome (fault_met given) (λ fault. IsUnlessMemory c.report.result (DumpFault fault.at fault.kind) ⊎ F ⊎ S ⊎ K))
    (λ given cut. fault-only given t book F F S K c.report.result c.in-Err.status c.report.ensures.same cut
    (λ q. c.in-Err.ensures.read (ap Err q)) (λ q. c.in-Err.ensures.write (ap Err q)))
    c.in-Err.ensures.session
