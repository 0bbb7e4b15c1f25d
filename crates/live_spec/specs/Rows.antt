-- Small live sessions, for the checker to compute.
use Rattle.std.specs.Prelude.{ℕ, List, [], ◌∷◌, map, length, replicate, Option, Some, None}
use Rattle.udp_edge.specs.declared.peer.Peer.{Peer}
use Rattle.udp_edge.specs.declared.turns.Turn.{Turn}
use Rattle.udp_edge.specs.declared.turns.Turn.TheVariants.{Datagram, Nothing, Fault}
use Rattle.live_spec.specs.Heard.{Live, heard}

-- a peer for everybody, at an address and port 5004
abbrev pub here : Peer
here = record { addr = 2130706433; port = 5004 }

abbrev pub everybody : ℕ → Option Peer
everybody member = Some here

abbrev pub silent : List ℕ → Live
silent answers = record { coming = []; start = 0; answers = answers }

-- a datagram of these octets
abbrev pub came : List ℕ → Turn
came octets = Datagram octets here

-- the octets of the records of each tick
abbrev pub heard_at : Live → List ℕ → List (List (List ℕ))
heard_at live ks = map (λ k. map (λ i. i.octets) (heard live k)) ks
