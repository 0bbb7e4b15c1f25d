use Rattle.std.proofs.Common.{◌≡◌, drop}
use Rattle.udp_edge.specs.Known.{peer_at}
use Rattle.live_serve.specs.Asked.{first_missing}
use Rattle.live_serve.proofs.missing.first_missing.Given as goal

-- nobody is missing so far
abbrev pub invariant-loop-i : goal.invariant-loop-i
invariant-loop-i l = first_missing (peer_at l.peers) l.roster.timed ≡ first_missing (peer_at l.peers) (drop l.i l.roster.timed)
