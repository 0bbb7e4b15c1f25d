-- The line of each status, as it is written to the error stream.
use Rattle.std.specs.Prelude.{ℕ, List, [], codes}
use Rattle.session_edge.specs.Texts.{roster_fault_line, dump_fault_line, roster_long_line, read_failed_line, write_failed_line, memory_line}
use Rattle.session_report.specs.declared.status.ReportStatus.{ReportStatus}
use Rattle.session_report.specs.declared.status.ReportStatus.TheVariants.{Done, Usage, RosterFault, RosterLong, DumpFault, ReadFault, WriteFault, Memory}

-- the line of each status but Done
abbrev pub line_of : ReportStatus → List ℕ
line_of Done = []
line_of Usage = codes "usage: report ROSTER or report json ROSTER\n"
line_of (RosterFault line kind) = roster_fault_line line kind
line_of RosterLong = roster_long_line
line_of (DumpFault at kind) = dump_fault_line at kind
line_of ReadFault = read_failed_line
line_of WriteFault = write_failed_line
line_of Memory = memory_line
