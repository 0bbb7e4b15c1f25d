use Rattle.std.proofs.Common.{◌≡◌, ◌⊎◌, ℕ, List, sym, subst}
use Rattle.std.specs.Prelude.{Ok, Err, IfSome}
use Rattle.edge_io.specs.Told.{Rose}
use Rattle.udp_edge.specs.Traffic.{Traffic}
use Rattle.live_serve.specs.declared.status.ServeStatus.{ServeStatus}
use Rattle.live_serve.specs.CommandLine.{form_of}
use Rattle.live_serve.specs.Asked.{Session, asked, OnEnd, OnSession}
use Rattle.live_serve.specs.Ends.{MayEnd, IsSessionEnd, WorkEnds, CallEnds, PortTold}
use Rattle.live_serve.proofs.Calling.{session-with, both-with, said-ends, told-ends}
use Rattle.live_serve.proofs.serving.serve.Goals as goal

pub returns-in-Ok-clause-session : goal.returns-in-Ok-clause-session
returns-in-Ok-clause-session g c =
    let traffic = g.L.Link.traffic c.args.link.now in
    let answers = g.C.Clock.answers c.args.clock.now in
    let now = g.L.Link.traffic c.work.new.link in
    let old = g.E.Sink.held c.args.err.now in
    let new = g.E.Sink.held c.finish.new.err in
    let rose = Rose (g.E.Sink.faults c.args.err.now) (g.E.Sink.faults c.finish.new.err)
    ⊎ Rose (g.E.Sink.lacks c.args.err.now) (g.E.Sink.lacks c.finish.new.err) in
    let P = λ (s : Session) (told : Traffic) (given : List ℕ). WorkEnds s told given now (Ok c.in-Ok.summary) in
    let Q = λ (s : Session) (told : Traffic) (given : List ℕ). CallEnds s told given now old new rose c.finish.result in
    session-with (asked (form_of c.args.words.now) (g.F.Shelf.file c.args.shelf.now))
    (λ (s : Session). IfSome traffic (λ told. IfSome answers (λ given. P s told given)))
    (λ (s : Session). IfSome traffic (λ told. IfSome answers (λ given. Q s told given)))
    (λ s. both-with traffic answers (P s) (Q s) (λ told given ran.
    said-ends s told given now old new rose c.in-Ok.summary c.finish.result c.finish.ensures.ends c.finish.ensures.done c.finish.ensures.fault ran))
    c.in-Ok.ensures.session

pub returns-in-Err-clause-session : goal.returns-in-Err-clause-session
returns-in-Err-clause-session g c =
    let traffic = g.L.Link.traffic c.args.link.now in
    let answers = g.C.Clock.answers c.args.clock.now in
    let now = g.L.Link.traffic c.work.new.link in
    let old = g.E.Sink.held c.args.err.now in
    let new = g.E.Sink.held c.report.new.err in
    let rose = Rose (g.E.Sink.faults c.args.err.now) (g.E.Sink.faults c.report.new.err)
    ⊎ Rose (g.E.Sink.lacks c.args.err.now) (g.E.Sink.lacks c.report.new.err) in
    let P = λ (s : Session) (told : Traffic) (given : List ℕ). WorkEnds s told given now (Err c.in-Err.status) in
    let Q = λ (s : Session) (told : Traffic) (given : List ℕ). CallEnds s told given now old new rose c.report.result in
    session-with (asked (form_of c.args.words.now) (g.F.Shelf.file c.args.shelf.now))
    (λ (s : Session). IfSome traffic (λ told. IfSome answers (λ given. P s told given)))
    (λ (s : Session). IfSome traffic (λ told. IfSome answers (λ given. Q s told given)))
    (λ s. both-with traffic answers (P s) (Q s) (λ told given stopped.
    subst (λ (r : ServeStatus). CallEnds s told given now old new rose r) (sym c.report.ensures.same)
    (told-ends s told given now old new rose c.in-Err.status c.report.ensures.line stopped)))
    c.in-Err.ensures.session

pub returns-in-Err-clause-asked_end : goal.returns-in-Err-clause-asked_end
returns-in-Err-clause-asked_end g c =
    subst (λ (r : ServeStatus). OnEnd (asked (form_of c.args.words.now) (g.F.Shelf.file c.args.shelf.now)) (λ s.
    MayEnd r s × (c.work.new.link ≡ c.args.link.now) × (c.work.new.clock ≡ c.args.clock.now)))
    (sym c.report.ensures.same) c.in-Err.ensures.asked_end

pub returns-in-Err-clause-complete : goal.returns-in-Err-clause-complete
returns-in-Err-clause-complete g c =
    subst (λ (r : ServeStatus). OnSession (asked (form_of c.args.words.now) (g.F.Shelf.file c.args.shelf.now)) (λ s. IsSessionEnd r))
    (sym c.report.ensures.same) c.in-Err.ensures.complete

pub returns-in-Err-clause-port : goal.returns-in-Err-clause-port
returns-in-Err-clause-port g c =
    subst (λ (r : ServeStatus). IfSome (form_of c.args.words.now) (λ form.
    PortTold r (g.L.Link.traffic c.args.link.now) (g.L.Link.traffic c.work.new.link) form.port))
    (sym c.report.ensures.same) c.in-Err.ensures.port
