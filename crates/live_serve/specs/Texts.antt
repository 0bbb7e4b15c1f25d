-- The lines that are written to the error stream. Numbers are in decimal without leading zeros.
use Rattle.std.specs.Prelude.{ℕ, ◌++◌, List, [], codes, decimal}
use Rattle.session_edge.specs.Texts.{roster_fault_line, roster_long_line, read_failed_line, write_failed_line, memory_line}
use Rattle.udp_edge.specs.declared.peers.PeerKind.{PeerKind}
use Rattle.udp_edge.specs.declared.peers.PeerKind.TheVariants as kinds
use Rattle.live_spec.specs.declared.LiveSummary.{LiveSummary}
use Rattle.live_serve.specs.declared.status.ServeStatus.{ServeStatus}
use Rattle.live_serve.specs.declared.status.ServeStatus.TheVariants.{Done, Usage, RosterFault, RosterLong, PeersLong, PeerFault, PeerMissing, LinkFault, ReadFault, WriteFault, Memory}

-- what is wrong with a line of peers
abbrev pub kind_text : PeerKind → List ℕ
kind_text kinds.Words = codes "words"
kind_text kinds.Number = codes "number"
kind_text kinds.Address = codes "address"
kind_text kinds.Used = codes "member used"

-- the line of each status but Done
abbrev pub line_of : ServeStatus → List ℕ
line_of Done = []
line_of Usage = codes "usage: serve PORT PEERS ROSTER\n"
line_of (RosterFault line kind) = roster_fault_line line kind
line_of RosterLong = roster_long_line
line_of PeersLong = codes "peers longer than 1048576 octets\n"
line_of (PeerFault line kind) = codes "peers line " ++ decimal line ++ codes ": " ++ kind_text kind ++ codes "\n"
line_of (PeerMissing member) = codes "peer missing " ++ decimal member ++ codes "\n"
line_of LinkFault = codes "link failed\n"
line_of ReadFault = read_failed_line
line_of WriteFault = write_failed_line
line_of Memory = memory_line

-- the line of Done
abbrev pub summary_line : LiveSummary → List ℕ
summary_line s =
    codes "ticks " ++ decimal s.ticks ++ codes " runs " ++ decimal s.runs ++ codes " packets " ++ decimal s.packets ++ codes " refused " ++ decimal s.refused
    ++ codes " unsent " ++ decimal s.unsent ++ codes " reports " ++ decimal s.reports ++ codes " heard " ++ decimal s.heard ++ codes "\n"
