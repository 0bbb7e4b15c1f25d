-- What the peers that were read know, and what is answered to a text.
use Rattle.std.specs.Prelude.{◌≡◌, ℕ, nat_eq, List, Option, None, Some, Result, Ok, Err}
use Rattle.std.specs.HashMap as map_of
use Rattle.udp_edge.specs.declared.peer.Peer.{Peer}
use Rattle.udp_edge.specs.declared.listed.Listed.{Listed}
use Rattle.udp_edge.specs.declared.peers.Peers.{Peers}
use Rattle.udp_edge.specs.declared.peers.PeerKind.{PeerKind}
use Rattle.udp_edge.specs.declared.peers.PeersError.{PeersError}
use Rattle.udp_edge.specs.declared.peers.PeersError.TheVariants.{Bad, Memory}
use Rattle.udp_edge.specs.Peers.{Fault, peer_of, line_step}

-- the peer that is known of a member
abbrev pub peer_at : Peers → ℕ → Option Peer
peer_at peers q = map_of.get nat_eq peers.table q

-- each member's peer is the one that is listed, and none is known of the others
abbrev pub Knows : Peers → List Listed → Type 0
Knows peers listed = (q : ℕ) → peer_at peers q ≡ peer_of listed q

-- a line of these words is learned, or has this fault
abbrev pub Steps : Peers → List Listed → List (List ℕ) → Option PeerKind → Type 0
Steps new listed words None = (next : List Listed) × (line_step listed words ≡ Ok next) × Knows new next
Steps new listed words (Some kind) = line_step listed words ≡ Err kind

-- the answer to a text that means this, unless memory ran out
abbrev pub Answers : Result Peers PeersError → Result (List Listed) Fault → Type 0
Answers (Ok peers) meant = (listed : List Listed) × (meant ≡ Ok listed) × Knows peers listed
Answers (Err (Bad line kind)) meant = meant ≡ Err (record { line = line; kind = kind })
Answers (Err Memory) meant = Unit {0}
