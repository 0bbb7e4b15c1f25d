use Rattle.std.proofs.Common.{sym}
use Rattle.std.specs.Prelude.{Some, None}
use Rattle.udp_edge.specs.Known.{peer_at}
use Rattle.live_serve.proofs.Listeners.{missing-from}
use Rattle.live_serve.proofs.missing.first_missing.Goals as goal

pub returns-in-Some : goal.returns-in-Some
returns-in-Some c =
    sym (missing-from (peer_at c.args.peers.now) c.args.roster.now.timed c.loop-i.i c.timed.result (Some c.in-Some.member)
    c.timed.ensures c.in-Some.ensures c.loop-i.invariant)

pub loop-i-preserved : goal.loop-i-preserved
loop-i-preserved c =
    missing-from (peer_at c.args.peers.now) c.args.roster.now.timed c.loop-i.i c.timed.result None c.timed.ensures c.in_default.ensures c.loop-i.invariant
