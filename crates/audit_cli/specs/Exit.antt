-- The exit status that the program ends with.
use Rattle.std.specs.Prelude.{ℕ}
use Rattle.audit_check.specs.declared.status.AuditStatus.{AuditStatus}
use Rattle.audit_check.specs.declared.status.AuditStatus.TheVariants.{Yes, No, Usage, RosterFault, RosterLong, OutLong, DumpFault, ReadFault, WriteFault, Memory}

abbrev pub exit_of : AuditStatus → ℕ
exit_of Yes = 0
exit_of Usage = 2
exit_of (RosterFault line kind) = 3
exit_of RosterLong = 4
exit_of (DumpFault at kind) = 5
exit_of ReadFault = 6
exit_of WriteFault = 7
exit_of Memory = 8
exit_of (No at part place) = 16
exit_of OutLong = 17
