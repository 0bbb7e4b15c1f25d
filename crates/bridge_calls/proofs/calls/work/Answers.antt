use Rattle.std.proofs.Common.{rules, ◌≡◌, ap}
use Rattle.std.specs.Prelude.{Err}
use Rattle.edge_io.specs.Told.{Rose}
use Rattle.conference_spec.specs.Feed.{Feed}
use Rattle.desk_run.specs.BookSide.{StandsFor}
use Rattle.bridge_calls.specs.declared.status.Status.{Status}
use Rattle.bridge_calls.specs.CommandLine.{roster_of}
use Rattle.bridge_calls.proofs.Sessions.{take-ends, roster-ends, moved-session, unmoved}
use Rattle.bridge_calls.proofs.calls.work.Goals as goal

pub returns-in_err-text-clause-session : goal.returns-in_err-text-clause-session
returns-in_err-text-clause-session g c =
    let status : Status = c.in_err-text.field-0.0 in
    let name = roster_of c.args.words.now in
    let file = g.F.Shelf.file c.args.shelf.now in
    let rose = Rose (g.F.Shelf.faults c.args.shelf.now) (g.F.Shelf.faults c.take_roster.new.shelf) in
    let dump = g.S.Source.rest c.args.dump.now in
    let out = g.K.Sink.held c.args.out.now in
    let book = λ (f : Feed). StandsFor c.args.book.now f in
    let e : c.from_residual.result ≡ Err status = search rules in
    moved-session name file dump (unmoved dump out) book rose status c.from_residual.result e
    (take-ends status name file dump dump out book rose c.in_err-text.ensures.ends
    (λ q. c.in_err-text.ensures.usage (ap Err q)) (λ q. c.in_err-text.ensures.long (ap Err q)) (λ q. c.in_err-text.ensures.read (ap Err q)))

pub returns-in_err-roster-clause-session : goal.returns-in_err-roster-clause-session
returns-in_err-roster-clause-session g c =
    let status : Status = c.in_err-roster.field-0.0 in
    let name = roster_of c.args.words.now in
    let file = g.F.Shelf.file c.args.shelf.now in
    let rose = Rose (g.F.Shelf.faults c.args.shelf.now) (g.F.Shelf.faults c.take_roster.new.shelf) in
    let dump = g.S.Source.rest c.args.dump.now in
    let out = g.K.Sink.held c.args.out.now in
    let book = λ (f : Feed). StandsFor c.args.book.now f in
    let e : c.from_residual-in_err-roster.result ≡ Err status = search rules in
    moved-session name file dump (unmoved dump out) book rose status c.from_residual-in_err-roster.result e
    (roster-ends status c.in_ok-text.text name file dump dump out book rose c.in_err-roster.ensures.ends c.in_err-roster.ensures.fault c.in_ok-text.ensures.whole)
