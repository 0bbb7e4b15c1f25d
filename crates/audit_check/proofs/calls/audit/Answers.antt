use Rattle.std.proofs.Common.{◌≡◌, ◌⊎◌, ℕ, List}
use Rattle.std.specs.Prelude.{Ok, None}
use Rattle.edge_io.specs.Told.{Rose}
use Rattle.desk_run.specs.Whole.{Given}
use Rattle.audit_check.specs.declared.status.AuditStatus.TheVariants.{Memory}
use Rattle.audit_check.specs.CommandLine.{roster_of, out_of}
use Rattle.audit_check.specs.Ends.{Finds, CallFinds, IsRight, fault_met}
use Rattle.audit_check.proofs.Sessions.{audit-with, call-finds, call-right}
use Rattle.audit_check.proofs.calls.audit.Goals as goal

pub returns-in-Ok-clause-session : goal.returns-in-Ok-clause-session
returns-in-Ok-clause-session g c =
    let left = g.S.Source.rest c.work.new.dump in
    audit-with (roster_of c.args.words.now) (out_of c.args.words.now) (g.F.Shelf.file c.args.shelf.now) (g.S.Source.rest c.args.dump.now)
    (λ (given : Given) (out : List ℕ). Finds given out left (Ok c.in-Ok.found)) (λ (given : Given) (out : List ℕ). CallFinds given out left c.finish.result)
    (λ given out found. call-finds given out left c.in-Ok.found c.verdict.result c.finish.result c.verdict.ensures.value c.finish.ensures.same c.finish.ensures.ends found)
    c.in-Ok.ensures.session

pub returns-in-Ok-clause-complete : goal.returns-in-Ok-clause-complete
returns-in-Ok-clause-complete g c =
    let left = g.S.Source.rest c.work.new.dump in
    audit-with (roster_of c.args.words.now) (out_of c.args.words.now) (g.F.Shelf.file c.args.shelf.now) (g.S.Source.rest c.args.dump.now)
    (λ (given : Given) (out : List ℕ). Finds given out left (Ok c.in-Ok.found))
    (λ (given : Given) (out : List ℕ). fault_met given ≡ None → IsRight given out c.finish.result ⊎ (c.finish.result ≡ Memory)
    ⊎ Rose (g.F.Shelf.faults c.args.shelf.now) (g.F.Shelf.faults c.work.new.shelf) ⊎ Rose (g.S.Source.faults c.args.dump.now) (g.S.Source.faults c.work.new.dump)
    ⊎ Rose (g.K.Sink.faults c.args.out.now) (g.K.Sink.faults c.finish.new.out))
    (λ given out found none. call-right given out left c.in-Ok.found c.verdict.result c.finish.result c.verdict.ensures.value c.finish.ensures.same c.finish.ensures.ends found
    c.finish.ensures.write)
    c.in-Ok.ensures.session
