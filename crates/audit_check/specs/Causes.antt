-- The status that each fault below ends in, and the statuses that each step can end in.
use Rattle.std.specs.Prelude.{◌≡◌, ◌⊎◌, ℕ, Option, Some, None, Result, IsErrOf}
use Rattle.rtp_dump.specs.declared.faults.DumpKind.{DumpKind}
use Rattle.edge_io.specs.declared.faults.PutFault.{PutFault}
use Rattle.edge_io.specs.declared.faults.PutFault.TheVariants as put
use Rattle.roster_text.specs.declared.faults.RosterKind.{RosterKind}
use Rattle.roster_text.specs.declared.faults.RosterError.{RosterError}
use Rattle.roster_text.specs.declared.faults.RosterError.TheVariants as roster
use Rattle.program_edge.specs.declared.words.WordsFault.{WordsFault}
use Rattle.program_edge.specs.declared.words.WordsFault.TheVariants as words
use Rattle.audit_check.specs.declared.status.Part.{Part}
use Rattle.audit_check.specs.declared.status.Where.{Where}
use Rattle.audit_check.specs.declared.status.AuditStatus.{AuditStatus}
use Rattle.audit_check.specs.declared.status.AuditStatus.TheVariants.{Yes, No, Usage, RosterFault, RosterLong, OutLong, DumpFault, ReadFault, WriteFault, Memory}
use Rattle.audit_check.specs.declared.compare.Difference.{Difference}

abbrev pub of_words : WordsFault → AuditStatus
of_words words.Usage = Usage
of_words words.Memory = Memory

abbrev pub of_roster : RosterError → AuditStatus
of_roster (roster.Bad line kind) = RosterFault line kind
of_roster roster.Memory = Memory

abbrev pub of_put : PutFault → AuditStatus
of_put put.Failed = WriteFault
of_put put.Memory = Memory

-- the verdict: where the octets first differ, or that they don't
abbrev pub verdict_of : Option Difference → AuditStatus
verdict_of None = Yes
verdict_of (Some d) = No d.at d.part d.place

-- the ends of taking the roster
abbrev pub IsTakeEnd : AuditStatus → Type 0
IsTakeEnd RosterLong = Unit {0}
IsTakeEnd ReadFault = Unit {0}
IsTakeEnd Memory = Unit {0}
IsTakeEnd status = ⊥

-- the ends of taking the octets
abbrev pub IsOutEnd : AuditStatus → Type 0
IsOutEnd OutLong = Unit {0}
IsOutEnd ReadFault = Unit {0}
IsOutEnd Memory = Unit {0}
IsOutEnd status = ⊥

-- the ends of reading the roster
abbrev pub IsRosterEnd : AuditStatus → Type 0
IsRosterEnd (RosterFault line kind) = Unit {0}
IsRosterEnd Memory = Unit {0}
IsRosterEnd status = ⊥

-- the ends of a run
abbrev pub IsRunEnd : AuditStatus → Type 0
IsRunEnd (DumpFault at kind) = Unit {0}
IsRunEnd ReadFault = Unit {0}
IsRunEnd Memory = Unit {0}
IsRunEnd status = ⊥

-- the ends before a verdict
abbrev pub IsFaultEnd : AuditStatus → Type 0
IsFaultEnd Yes = ⊥
IsFaultEnd (No at part place) = ⊥
IsFaultEnd WriteFault = ⊥
IsFaultEnd status = Unit {0}

-- the ends of writing
abbrev pub IsOutputEnd : AuditStatus → Type 0
IsOutputEnd WriteFault = Unit {0}
IsOutputEnd Memory = Unit {0}
IsOutputEnd status = ⊥

-- a verdict
abbrev pub IsVerdict : AuditStatus → Type 0
IsVerdict Yes = Unit {0}
IsVerdict (No at part place) = Unit {0}
IsVerdict status = ⊥

-- where the status is a fault of the roster, P holds of its line and kind
abbrev pub OnRosterFault : AuditStatus → (ℕ → RosterKind → Type 0) → Type 0
OnRosterFault (RosterFault line kind) P = P line kind
OnRosterFault status P = Unit {0}

-- where it is No, P holds of what it says
abbrev pub OnNo : AuditStatus → (Difference → Type 0) → Type 0
OnNo (No at part place) P = P (record { at = at; part = part; place = place })
OnNo status P = Unit {0}

-- the statuses that are met before the capture is read
abbrev pub IsBeforeSession : AuditStatus → Type 0
IsBeforeSession Usage = Unit {0}
IsBeforeSession RosterLong = Unit {0}
IsBeforeSession (RosterFault line kind) = Unit {0}
IsBeforeSession OutLong = Unit {0}
IsBeforeSession status = ⊥

-- the call ended so, or for want of memory
abbrev pub IsUnlessMemory : AuditStatus → AuditStatus → Type 0
IsUnlessMemory result status = (result ≡ status) ⊎ (result ≡ Memory)

-- a step ended so, or for want of memory
abbrev pub EndsUnlessMemory : {X : Type 0} → Result X AuditStatus → AuditStatus → Type 0
EndsUnlessMemory result status = IsErrOf result status ⊎ IsErrOf result Memory
