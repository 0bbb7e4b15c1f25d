use Rattle.std.proofs.Common.{◌≡◌, ◌+◌, ◌≤◌, List, length}
use Rattle.roster_text.specs.Lines.{lines_of}
use Rattle.udp_edge.specs.declared.listed.Listed.{Listed}
use Rattle.udp_edge.specs.Peers.{lines_make, peers_in}
use Rattle.udp_edge.specs.Known.{Knows}
use Rattle.udp_edge.proofs.peers.read_peers.Given as goal

abbrev pub invariant-loop-text : goal.invariant-loop-text
invariant-loop-text l = record {
  same : (listed : List Listed) × Knows l.peers listed × (lines_make (lines_of l.rest) l.line listed ≡ peers_in l.bytes);
  short : l.line + length l.rest ≤ 1 + length l.bytes;
}

abbrev pub decreases-loop-text : goal.decreases-loop-text
decreases-loop-text l = length l.rest
