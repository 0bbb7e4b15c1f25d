-- The status that each fault below ends in, and the statuses that each step can end in.
use Rattle.std.specs.Prelude.{◌≡◌, ◌⊎◌, ℕ, Bool, true, false, Result, Ok, Err, IsErrOf}
use Rattle.edge_io.specs.declared.faults.PutFault.{PutFault}
use Rattle.edge_io.specs.declared.faults.PutFault.TheVariants as put
use Rattle.program_edge.specs.declared.words.WordsFault.{WordsFault}
use Rattle.program_edge.specs.declared.words.WordsFault.TheVariants as words
use Rattle.room_pool.specs.declared.listing.ListError.{ListError}
use Rattle.room_pool.specs.declared.listing.ListError.TheVariants as list
use Rattle.rooms_run.specs.declared.status.RoomsStatus.{RoomsStatus}
use Rattle.rooms_run.specs.declared.status.RoomsStatus.TheVariants.{Done, Usage, ListFault, ListLong, ReadFault, WriteFault, Memory}

abbrev pub of_words : WordsFault → RoomsStatus
of_words words.Usage = Usage
of_words words.Memory = Memory

abbrev pub of_list : ListError → RoomsStatus
of_list (list.Bad line) = ListFault line
of_list list.Memory = Memory

abbrev pub of_put : PutFault → RoomsStatus
of_put put.Failed = WriteFault
of_put put.Memory = Memory

-- a read failed
abbrev pub read_failed : {T : Type 0} → Result T RoomsStatus → Bool
read_failed (Ok x) = false
read_failed (Err ReadFault) = true
read_failed (Err status) = false

-- the ends of taking the list's text
abbrev pub IsTextEnd : RoomsStatus → Type 0
IsTextEnd Usage = Unit {0}
IsTextEnd ListLong = Unit {0}
IsTextEnd ReadFault = Unit {0}
IsTextEnd Memory = Unit {0}
IsTextEnd status = ⊥

-- the ends of taking the list and reading it
abbrev pub IsListEnd : RoomsStatus → Type 0
IsListEnd Done = ⊥
IsListEnd WriteFault = ⊥
IsListEnd status = Unit {0}

-- the ends of taking what a room is given
abbrev pub IsTakeEnd : RoomsStatus → Type 0
IsTakeEnd ReadFault = Unit {0}
IsTakeEnd Memory = Unit {0}
IsTakeEnd status = ⊥

-- the ends after which outputs may hold more
abbrev pub IsOutputEnd : RoomsStatus → Type 0
IsOutputEnd Done = Unit {0}
IsOutputEnd WriteFault = Unit {0}
IsOutputEnd Memory = Unit {0}
IsOutputEnd status = ⊥

-- where the status is a fault of the list, P holds of its line
abbrev pub OnListFault : RoomsStatus → (ℕ → Type 0) → Type 0
OnListFault (ListFault line) P = P line
OnListFault status P = Unit {0}

-- the call ended so, or for want of memory
abbrev pub IsUnlessMemory : RoomsStatus → RoomsStatus → Type 0
IsUnlessMemory result status = (result ≡ status) ⊎ (result ≡ Memory)

-- a step ended so, or for want of memory
abbrev pub EndsUnlessMemory : {X : Type 0} → Result X RoomsStatus → RoomsStatus → Type 0
EndsUnlessMemory result status = IsErrOf result status ⊎ IsErrOf result Memory
