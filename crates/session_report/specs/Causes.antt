-- The status that each fault below ends in, and the statuses that each step can end in.
use Rattle.std.specs.Prelude.{◌≡◌, ◌⊎◌, ℕ, Result, IsErrOf}
use Rattle.edge_io.specs.declared.faults.PutFault.{PutFault}
use Rattle.edge_io.specs.declared.faults.PutFault.TheVariants as put
use Rattle.edge_io.specs.declared.faults.TakeFault.{TakeFault}
use Rattle.edge_io.specs.declared.faults.TakeFault.TheVariants as take
use Rattle.roster_text.specs.declared.faults.RosterKind.{RosterKind}
use Rattle.roster_text.specs.declared.faults.RosterError.{RosterError}
use Rattle.roster_text.specs.declared.faults.RosterError.TheVariants as roster
use Rattle.program_edge.specs.declared.words.WordsFault.{WordsFault}
use Rattle.program_edge.specs.declared.words.WordsFault.TheVariants as words
use Rattle.session_report.specs.declared.status.ReportStatus.{ReportStatus}
use Rattle.session_report.specs.declared.status.ReportStatus.TheVariants.{Done, Usage, RosterFault, RosterLong, DumpFault, ReadFault, WriteFault, Memory}

abbrev pub of_words : WordsFault → ReportStatus
of_words words.Usage = Usage
of_words words.Memory = Memory

abbrev pub of_take : TakeFault → ReportStatus
of_take take.Failed = ReadFault
of_take take.TooLong = RosterLong
of_take take.Memory = Memory

abbrev pub of_roster : RosterError → ReportStatus
of_roster (roster.Bad line kind) = RosterFault line kind
of_roster roster.Memory = Memory

abbrev pub of_put : PutFault → ReportStatus
of_put put.Failed = WriteFault
of_put put.Memory = Memory

-- the ends of taking the roster
abbrev pub IsTakeEnd : ReportStatus → Type 0
IsTakeEnd RosterLong = Unit {0}
IsTakeEnd ReadFault = Unit {0}
IsTakeEnd Memory = Unit {0}
IsTakeEnd status = ⊥

-- the ends of reading the roster
abbrev pub IsRosterEnd : ReportStatus → Type 0
IsRosterEnd (RosterFault line kind) = Unit {0}
IsRosterEnd Memory = Unit {0}
IsRosterEnd status = ⊥

-- the ends of a run
abbrev pub IsRunEnd : ReportStatus → Type 0
IsRunEnd (DumpFault at kind) = Unit {0}
IsRunEnd ReadFault = Unit {0}
IsRunEnd Memory = Unit {0}
IsRunEnd status = ⊥

-- the ends before a report is written
abbrev pub IsFaultEnd : ReportStatus → Type 0
IsFaultEnd Done = ⊥
IsFaultEnd WriteFault = ⊥
IsFaultEnd status = Unit {0}

-- the ends of writing, but for Done
abbrev pub IsOutputEnd : ReportStatus → Type 0
IsOutputEnd WriteFault = Unit {0}
IsOutputEnd Memory = Unit {0}
IsOutputEnd status = ⊥

-- where the status is a fault of the roster, P holds of its line and kind
abbrev pub OnRosterFault : ReportStatus → (ℕ → RosterKind → Type 0) → Type 0
OnRosterFault (RosterFault line kind) P = P line kind
OnRosterFault status P = Unit {0}

-- the statuses that are met before the capture is read
abbrev pub IsBeforeSession : ReportStatus → Type 0
IsBeforeSession Usage = Unit {0}
IsBeforeSession RosterLong = Unit {0}
IsBeforeSession (RosterFault line kind) = Unit {0}
IsBeforeSession status = ⊥

-- the call ended so, or for want of memory
abbrev pub IsUnlessMemory : ReportStatus → ReportStatus → Type 0
IsUnlessMemory result status = (result ≡ status) ⊎ (result ≡ Memory)

-- a step ended so, or for want of memory
abbrev pub EndsUnlessMemory : {X : Type 0} → Result X ReportStatus → ReportStatus → Type 0
EndsUnlessMemory result status = IsErrOf result status ⊎ IsErrOf result Memory
