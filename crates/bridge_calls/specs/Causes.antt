-- The status that each fault below ends in, and the statuses that each step can end in.
use Rattle.std.specs.Prelude.{◌≡◌, ◌⊎◌, ℕ, Result, IsErrOf}
use Rattle.edge_io.specs.declared.faults.PutFault.{PutFault}
use Rattle.edge_io.specs.declared.faults.PutFault.TheVariants as put
use Rattle.edge_io.specs.declared.faults.TakeFault.{TakeFault}
use Rattle.edge_io.specs.declared.faults.TakeFault.TheVariants as take
use Rattle.roster_text.specs.declared.faults.RosterKind.{RosterKind}
use Rattle.roster_text.specs.declared.faults.RosterError.{RosterError}
use Rattle.roster_text.specs.declared.faults.RosterError.TheVariants as roster
use Rattle.program_edge.specs.declared.words.WordsFault.{WordsFault}
use Rattle.program_edge.specs.declared.words.WordsFault.TheVariants as words
use Rattle.bridge_calls.specs.declared.status.Status.{Status}
use Rattle.bridge_calls.specs.declared.status.Status.TheVariants.{Done, Usage, RosterFault, RosterLong, DumpFault, ReadFault, WriteFault, Memory}

abbrev pub of_words : WordsFault → Status
of_words words.Usage = Usage
of_words words.Memory = Memory

abbrev pub of_take : TakeFault → Status
of_take take.Failed = ReadFault
of_take take.TooLong = RosterLong
of_take take.Memory = Memory

abbrev pub of_roster : RosterError → Status
of_roster (roster.Bad line kind) = RosterFault line kind
of_roster roster.Memory = Memory

abbrev pub of_put : PutFault → Status
of_put put.Failed = WriteFault
of_put put.Memory = Memory

-- the ends of taking the roster
abbrev pub IsTakeEnd : Status → Type 0
IsTakeEnd Usage = Unit {0}
IsTakeEnd RosterLong = Unit {0}
IsTakeEnd ReadFault = Unit {0}
IsTakeEnd Memory = Unit {0}
IsTakeEnd status = ⊥

-- the ends of reading the roster
abbrev pub IsRosterEnd : Status → Type 0
IsRosterEnd (RosterFault line kind) = Unit {0}
IsRosterEnd Memory = Unit {0}
IsRosterEnd status = ⊥

-- the ends of a run
abbrev pub IsRunEnd : Status → Type 0
IsRunEnd (DumpFault at kind) = Unit {0}
IsRunEnd ReadFault = Unit {0}
IsRunEnd WriteFault = Unit {0}
IsRunEnd Memory = Unit {0}
IsRunEnd status = ⊥

-- the ends of writing
abbrev pub IsOutputEnd : Status → Type 0
IsOutputEnd WriteFault = Unit {0}
IsOutputEnd Memory = Unit {0}
IsOutputEnd status = ⊥

-- the ends of the call of a demo session
abbrev pub IsDemoEnd : Status → Type 0
IsDemoEnd Done = Unit {0}
IsDemoEnd Usage = Unit {0}
IsDemoEnd WriteFault = Unit {0}
IsDemoEnd Memory = Unit {0}
IsDemoEnd status = ⊥

-- where the status is a fault of the roster, P holds of its line and kind
abbrev pub OnRosterFault : Status → (ℕ → RosterKind → Type 0) → Type 0
OnRosterFault (RosterFault line kind) P = P line kind
OnRosterFault status P = Unit {0}

-- the statuses that are met before the capture is read and anything is written
abbrev pub IsBeforeOutput : Status → Type 0
IsBeforeOutput Usage = Unit {0}
IsBeforeOutput RosterLong = Unit {0}
IsBeforeOutput (RosterFault line kind) = Unit {0}
IsBeforeOutput status = ⊥

-- the call ended so, or for want of memory
abbrev pub IsUnlessMemory : Status → Status → Type 0
IsUnlessMemory result status = (result ≡ status) ⊎ (result ≡ Memory)

-- a step ended so, or for want of memory
abbrev pub EndsUnlessMemory : {X : Type 0} → Result X Status → Status → Type 0
EndsUnlessMemory result status = IsErrOf result status ⊎ IsErrOf result Memory
