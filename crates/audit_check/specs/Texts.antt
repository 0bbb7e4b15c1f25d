-- The lines that are written. Numbers are in decimal without leading zeros.
use Rattle.std.specs.Prelude.{ℕ, ◌++◌, List, [], Option, Some, None, codes, decimal}
use Rattle.session_edge.specs.Texts.{roster_fault_line, dump_fault_line, roster_long_line, read_failed_line, write_failed_line, memory_line}
use Rattle.audit_check.specs.declared.status.Part.{Part}
use Rattle.audit_check.specs.declared.status.Part.TheVariants.{FileHead, RecordHead, RtpHead, Payload, Missing, Extra}
use Rattle.audit_check.specs.declared.status.Where.{Where}
use Rattle.audit_check.specs.declared.status.AuditStatus.{AuditStatus}
use Rattle.audit_check.specs.declared.status.AuditStatus.TheVariants.{Yes, No, Usage, RosterFault, RosterLong, OutLong, DumpFault, ReadFault, WriteFault, Memory}

-- the parts of an answer
abbrev pub part_text : Part → List ℕ
part_text FileHead = codes "file head"
part_text RecordHead = codes "record head"
part_text RtpHead = codes "RTP head"
part_text Payload = codes "payload"
part_text Missing = codes "missing"
part_text Extra = codes "extra"

-- the packet that a difference lies in, if it lies in one
abbrev pub place_text : Option Where → List ℕ
place_text None = []
place_text (Some w) = codes " packet " ++ decimal w.packet ++ codes " tick " ++ decimal w.tick ++ codes " member " ++ decimal w.member

-- the line of each status
abbrev pub line_of : AuditStatus → List ℕ
line_of Yes = codes "yes\n"
line_of (No at part place) = codes "no at " ++ decimal at ++ codes ": " ++ part_text part ++ place_text place ++ codes "\n"
line_of Usage = codes "usage: audit ROSTER OUT\n"
line_of (RosterFault line kind) = roster_fault_line line kind
line_of RosterLong = roster_long_line
line_of OutLong = codes "answer longer than 1073741824 octets\n"
line_of (DumpFault at kind) = dump_fault_line at kind
line_of ReadFault = read_failed_line
line_of WriteFault = write_failed_line
line_of Memory = memory_line
