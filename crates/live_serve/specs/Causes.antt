-- The status that each fault below ends in.
use Rattle.edge_io.specs.declared.faults.PutFault.{PutFault}
use Rattle.edge_io.specs.declared.faults.PutFault.TheVariants as put
use Rattle.roster_text.specs.declared.faults.RosterError.{RosterError}
use Rattle.roster_text.specs.declared.faults.RosterError.TheVariants as roster
use Rattle.udp_edge.specs.declared.peers.PeersError.{PeersError}
use Rattle.udp_edge.specs.declared.peers.PeersError.TheVariants as peers
use Rattle.live_serve.specs.declared.status.ServeStatus.{ServeStatus}
use Rattle.live_serve.specs.declared.status.ServeStatus.TheVariants.{RosterFault, PeerFault, WriteFault, Memory}

abbrev pub of_roster : RosterError → ServeStatus
of_roster (roster.Bad line kind) = RosterFault line kind
of_roster roster.Memory = Memory

abbrev pub of_peers : PeersError → ServeStatus
of_peers (peers.Bad line kind) = PeerFault line kind
of_peers peers.Memory = Memory

abbrev pub of_put : PutFault → ServeStatus
of_put put.Failed = WriteFault
of_put put.Memory = Memory
