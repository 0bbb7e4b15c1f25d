use Rattle.std.proofs.Common.{rules, ◌≡◌}
use Rattle.std.specs.Prelude.{Err}
use Rattle.edge_io.specs.Told.{Rose}
use Rattle.live_serve.specs.declared.status.ServeStatus.{ServeStatus}
use Rattle.live_serve.specs.CommandLine.{Form, form_of}
use Rattle.live_serve.proofs.Stopping.{roster-stops, peers-stops, no-peers-since, rose-since, formed-stops}
use Rattle.live_serve.proofs.preparing.prepare.Goals as goal

pub returns-in_err-roster-clause-stops : goal.returns-in_err-roster-clause-stops
returns-in_err-roster-clause-stops g c =
    let status : ServeStatus = c.in_err-roster.field-0.0 in
    let form : Form = record { port = c.in-Some.form.port; peers = c.in-Some.form.peers.now; roster = c.in-Some.form.roster.now } in
    let file = g.F.Shelf.file c.args.shelf.now in
    let rose = Rose (g.F.Shelf.faults c.args.shelf.now) (g.F.Shelf.faults c.take_roster.new.shelf) in
    let e : c.from_residual.result ≡ Err status = search rules in
    formed-stops (form_of c.args.words.now) form file rose status c.from_residual.result c.in-Some.ensures.some e
    (roster-stops form file rose status c.in_err-roster.ensures.err)

pub returns-in_err-peers-clause-stops : goal.returns-in_err-peers-clause-stops
returns-in_err-peers-clause-stops g c =
    let status : ServeStatus = c.in_err-peers.field-0.0 in
    let form : Form = record { port = c.in-Some.form.port; peers = c.in-Some.form.peers.now; roster = c.in-Some.form.roster.now } in
    let file = g.F.Shelf.file c.args.shelf.now in
    let first = g.F.Shelf.faults c.args.shelf.now in
    let mid = g.F.Shelf.faults c.take_roster.new.shelf in
    let last = g.F.Shelf.faults c.take_peers.new.shelf in
    let e : c.from_residual-in_err-peers.result ≡ Err status = search rules in
    formed-stops (form_of c.args.words.now) form file (Rose first last) status c.from_residual-in_err-peers.result c.in-Some.ensures.some e
    (peers-stops form file (Rose first last) c.in_ok-roster.roster c.in_ok-roster.ensures.ok status
    (no-peers-since (file form.peers) (g.F.Shelf.file c.take_roster.new.shelf form.peers) (Rose first last) (Rose mid last) status
    (c.take_roster.ensures.same form.peers) (rose-since first mid last c.take_roster.ensures.never_falls) c.in_err-peers.ensures.err))
