-- The fault that a reader's `head` leaves behind, and which answers say that a read failed.
use Rattle.std.specs.Prelude.{Bool, true, false, Result, Ok, Err}
use Rattle.rtp_dump.specs.declared.faults.DumpFault.{DumpFault}
use Rattle.rtp_dump.specs.declared.faults.DumpFault.TheVariants.{Bad, Read, Memory}
use Rattle.rtp_dump.specs.declared.faults.HeadEnd.{HeadEnd}
use Rattle.rtp_dump.specs.declared.faults.HeadEnd.TheVariants as head_end

-- the fault that the end of `head` stands for
abbrev pub fault_of : HeadEnd → DumpFault
fault_of (head_end.Bad at kind) = Bad at kind
fault_of head_end.Read = Read

module _ {T : Type 0} where
  -- a read of the line or the file head failed
  abbrev pub head_failed : Result T HeadEnd → Bool
  head_failed (Ok x) = false
  head_failed (Err (head_end.Bad at kind)) = false
  head_failed (Err head_end.Read) = true

  -- a read of a record failed
  abbrev pub read_failed : Result T DumpFault → Bool
  read_failed (Ok x) = false
  read_failed (Err (Bad at kind)) = false
  read_failed (Err Read) = true
  read_failed (Err Memory) = false
