-- The exit status that the program ends with.
use Rattle.std.specs.Prelude.{ℕ}
use Rattle.session_report.specs.declared.status.ReportStatus.{ReportStatus}
use Rattle.session_report.specs.declared.status.ReportStatus.TheVariants.{Done, Usage, RosterFault, RosterLong, DumpFault, ReadFault, WriteFault, Memory}

abbrev pub exit_of : ReportStatus → ℕ
exit_of Done = 0
exit_of Usage = 2
exit_of (RosterFault line kind) = 3
exit_of RosterLong = 4
exit_of (DumpFault at kind) = 5
exit_of ReadFault = 6
exit_of WriteFault = 7
exit_of Memory = 8
