-- What the faults of a capture and of a sink are to a session, and which answers say that a read or a write failed.
use Rattle.std.specs.Prelude.{Bool, true, false, Result, Ok, Err}
use Rattle.edge_io.specs.declared.faults.PutFault.{PutFault}
use Rattle.edge_io.specs.declared.faults.PutFault.TheVariants as put
use Rattle.rtp_dump.specs.declared.faults.DumpFault.{DumpFault}
use Rattle.rtp_dump.specs.declared.faults.DumpFault.TheVariants as fault
use Rattle.rtp_dump.specs.declared.faults.HeadEnd.{HeadEnd}
use Rattle.rtp_dump.specs.declared.faults.HeadEnd.TheVariants as head
use Rattle.desk_run.specs.declared.stops.Stop.{Stop}
use Rattle.desk_run.specs.declared.stops.Stop.TheVariants.{Dump, Read, Write, Memory}

abbrev pub of_head : HeadEnd → Stop
of_head (head.Bad at kind) = Dump at kind
of_head head.Read = Read

abbrev pub of_dump : DumpFault → Stop
of_dump (fault.Bad at kind) = Dump at kind
of_dump fault.Read = Read
of_dump fault.Memory = Memory

abbrev pub of_put : PutFault → Stop
of_put put.Failed = Write
of_put put.Memory = Memory

-- a write failed
abbrev pub is_write : Stop → Bool
is_write (Dump at kind) = false
is_write Read = false
is_write Write = true
is_write Memory = false

abbrev pub write_failed : {T : Type 0} → Result T Stop → Bool
write_failed (Ok x) = false
write_failed (Err stop) = is_write stop
