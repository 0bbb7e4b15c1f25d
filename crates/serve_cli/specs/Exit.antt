-- The exit status that the program ends with.
use Rattle.std.specs.Prelude.{ℕ}
use Rattle.live_serve.specs.declared.status.ServeStatus.{ServeStatus}
use Rattle.live_serve.specs.declared.status.ServeStatus.TheVariants.{Done, Usage, RosterFault, RosterLong, PeersLong, PeerFault, PeerMissing, LinkFault, ReadFault, WriteFault, Memory}

abbrev pub exit_of : ServeStatus → ℕ
exit_of Done = 0
exit_of Usage = 2
exit_of (RosterFault line kind) = 3
exit_of RosterLong = 4
exit_of ReadFault = 6
exit_of WriteFault = 7
exit_of Memory = 8
exit_of (PeerFault line kind) = 10
exit_of (PeerMissing member) = 11
exit_of LinkFault = 12
exit_of PeersLong = 13
