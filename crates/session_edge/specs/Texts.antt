-- The lines that are written to the error stream. Numbers are in decimal without leading zeros.
use Rattle.std.specs.Prelude.{ℕ, ◌++◌, List, codes, decimal}
use Rattle.rtp_dump.specs.declared.faults.DumpKind.{DumpKind}
use Rattle.rtp_dump.specs.declared.faults.DumpKind.TheVariants.{NotDump, TornHead, ShortLength, TornRecord, TooMany}
use Rattle.session_spec.specs.declared.Summary.{Summary}
use Rattle.roster_text.specs.declared.faults.RosterKind.{RosterKind}
use Rattle.roster_text.specs.declared.faults.RosterKind.TheVariants as kinds

-- what is wrong with a capture
abbrev pub kind_text : DumpKind → List ℕ
kind_text NotDump = codes "not a dump"
kind_text TornHead = codes "torn head"
kind_text ShortLength = codes "short length"
kind_text TornRecord = codes "torn record"
kind_text TooMany = codes "too many records"

-- what is wrong with a roster's line
abbrev pub roster_text : RosterKind → List ℕ
roster_text kinds.Words = codes "words"
roster_text kinds.Number = codes "number"
roster_text kinds.Rate = codes "rate"
roster_text kinds.PayType = codes "payload type"
roster_text kinds.Bundle = codes "bundle"
roster_text kinds.Back = codes "time goes back"
roster_text kinds.Used = codes "number used"
roster_text kinds.Absent = codes "not present"
roster_text kinds.SsrcTaken = codes "SSRC taken"
roster_text kinds.Full = codes "full"
roster_text kinds.NoEnd = codes "no end"
roster_text kinds.AfterEnd = codes "after end"
roster_text kinds.TicksOver = codes "too many ticks"

-- the line of a roster's fault
abbrev pub roster_fault_line : ℕ → RosterKind → List ℕ
roster_fault_line line kind = codes "roster line " ++ decimal line ++ codes ": " ++ roster_text kind ++ codes "\n"

-- the line of a capture's fault
abbrev pub dump_fault_line : ℕ → DumpKind → List ℕ
dump_fault_line at kind = codes "dump at " ++ decimal at ++ codes ": " ++ kind_text kind ++ codes "\n"

-- the line of a roster that is too long
abbrev pub roster_long_line : List ℕ
roster_long_line = codes "roster longer than 1048576 octets\n"

-- the line of a read that failed
abbrev pub read_failed_line : List ℕ
read_failed_line = codes "read failed\n"

-- the line of a write that failed
abbrev pub write_failed_line : List ℕ
write_failed_line = codes "write failed\n"

-- the line of want of memory
abbrev pub memory_line : List ℕ
memory_line = codes "out of memory\n"

-- the line of a session that was run whole
abbrev pub summary_line : Summary → List ℕ
summary_line s = codes "ticks " ++ decimal s.ticks ++ codes " runs " ++ decimal s.runs ++ codes " packets " ++ decimal s.packets ++ codes " refused " ++ decimal s.refused ++ codes "\n"
