-- What a live session is to send, and to whom: packets and reports, in order.
use Rattle.std.specs.Prelude.{◌≡◌, ℕ, zero, suc, ◌+◌, ◌%◌, ◌^◌, Bool, List, [], ◌∷◌, ◌++◌, length, take, Option, Some, None}
use Rattle.std.specs.List.{flat_map}
use Rattle.rtcp_pack.specs.declared.report.Report.{Report}
use Rattle.rtcp_pack.specs.Reports.{report_octets}
use Rattle.udp_edge.specs.declared.peer.Peer.{Peer}
use Rattle.udp_edge.specs.declared.turns.Tried.{Tried}
use Rattle.conference_spec.specs.declared.Packet.{Packet}
use Rattle.conference_spec.specs.Coding.{Coder}
use Rattle.conference_spec.specs.Feed.{Feed}
use Rattle.conference_spec.specs.Packets.{sent, rest}
use Rattle.session_spec.specs.Answer.{packet_octets}
use Rattle.live_spec.specs.Reports.{tick_reports, end_reports}

-- a datagram that is to be sent
pub record Letter : Type 0 where
  pub to : Peer
  pub octets : List ℕ

-- a datagram to a peer, if there is one
abbrev pub letter_to : Option Peer → List ℕ → List Letter
letter_to None octets = []
letter_to (Some peer) octets = record { to = peer; octets = octets } ∷ []

-- the same peer at the port above, where it takes reports (RFC 3550, section 11)
abbrev pub port_above : Option Peer → Option Peer
port_above None = None
port_above (Some peer) = Some (record { addr = peer.addr; port = (peer.port + 1) % 2 ^ 16 })

module _ (peer_of : ℕ → Option Peer) where
  -- packets, each to its member's peer
  abbrev pub packet_letters : List Packet → List Letter
  packet_letters packets = flat_map (λ p. letter_to (peer_of p.member) (packet_octets p)) packets

  -- reports, each to its member's peer at the port above
  abbrev pub report_letters : List Report → List Letter
  report_letters reports = flat_map (λ r. letter_to (port_above (peer_of r.member)) (report_octets r)) reports

  -- what tick k sends: its packets, and then the reports that are due
  abbrev pub tick_letters : Coder → ℕ → Feed → List Letter
  tick_letters coder k h = packet_letters (sent coder k h) ++ report_letters (tick_reports coder k h)

  -- what the ticks before k send
  abbrev pub letters_to : Coder → ℕ → Feed → List Letter
  letters_to coder zero h = []
  letters_to coder (suc k) h = letters_to coder k h ++ tick_letters coder k h

  -- what is left after so many ticks, and the last reports
  abbrev pub last_letters : Coder → ℕ → Feed → List Letter
  last_letters coder ticks h = packet_letters (rest coder h) ++ report_letters (end_reports coder ticks h)

  -- all that a session of so many ticks sends
  abbrev pub letters : Coder → ℕ → Feed → List Letter
  letters coder ticks h = letters_to coder ticks h ++ last_letters coder ticks h

-- letters that were tried, and whether each went
abbrev pub tries : List Letter → List Bool → List Tried
tries [] went = []
tries (l ∷ ls) [] = []
tries (l ∷ ls) (w ∷ went) = record { to = l.to; octets = l.octets; went = w } ∷ tries ls went
