use Rattle.std.proofs.Common.{◌≡◌, ◌⊎◌}
use Rattle.std.specs.Prelude.{Err, IfSome}
use Rattle.live_serve.specs.declared.status.ServeStatus.TheVariants.{ReadFault, Memory}
use Rattle.live_serve.specs.CommandLine.{form_of}
use Rattle.live_serve.specs.Asked.{Session, asked}
use Rattle.live_serve.specs.Ends.{IsSessionEnd, WorkEnds}
use Rattle.live_serve.proofs.Calling.{session-with, stop-ends, stop-session}
use Rattle.live_serve.proofs.serving.work.Goals as goal

pub returns-in-Err-clause-session : goal.returns-in-Err-clause-session
returns-in-Err-clause-session g c =
    let traffic = g.L.Link.traffic c.args.link.now in
    let answers = g.C.Clock.answers c.args.clock.now in
    session-with (asked (form_of c.args.words.now) (g.F.Shelf.file c.args.shelf.now))
    (λ (s : Session). (c.in-Err.status ≡ ReadFault) ⊎ (c.in-Err.status ≡ Memory))
    (λ (s : Session). IfSome traffic (λ told. IfSome answers (λ given. WorkEnds s told given traffic (Err c.in-Err.status))))
    (λ s. stop-ends traffic answers s c.in-Err.status)
    c.in-Err.ensures.stops.on_session

pub returns-in-Err-clause-complete : goal.returns-in-Err-clause-complete
returns-in-Err-clause-complete g c =
    session-with (asked (form_of c.args.words.now) (g.F.Shelf.file c.args.shelf.now))
    (λ (s : Session). (c.in-Err.status ≡ ReadFault) ⊎ (c.in-Err.status ≡ Memory)) (λ (s : Session). IsSessionEnd c.in-Err.status)
    (λ s. stop-session c.in-Err.status)
    c.in-Err.ensures.stops.on_session
