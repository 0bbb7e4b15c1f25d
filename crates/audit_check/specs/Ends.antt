-- What an audit finds, by the way that it ended.
use Rattle.std.specs.Prelude.{◌≡◌, ◌≢◌, ◌⊎◌, ℕ, List, Option, Some, None, Result, Ok, Err}
use Rattle.std.specs.Option.{option_or, option_map}
use Rattle.rtp_dump.specs.Spelling.{Fault}
use Rattle.rtp_dump.specs.Capture.{capture}
use Rattle.conference_spec.specs.Codec.{g726}
use Rattle.session_spec.specs.Captured.{met, head_fault}
use Rattle.session_spec.specs.Answer.{written}
use Rattle.desk_run.specs.Whole.{Given, TakesPart}
use Rattle.audit_check.specs.declared.status.AuditStatus.{AuditStatus}
use Rattle.audit_check.specs.declared.status.AuditStatus.TheVariants.{Yes, No, DumpFault, ReadFault, WriteFault, Memory}
use Rattle.audit_check.specs.declared.compare.Difference.{Difference}
use Rattle.audit_check.specs.Sendings.{sendings}
use Rattle.audit_check.specs.Difference.{first_difference, Judges}

-- the fault that a session meets: in the line or the file head of its capture, or among the records that it needs
abbrev pub fault_met : Given → Option Fault
fault_met given =
    option_or (head_fault given.bytes) (option_map (λ m. m.fault) (met given.ticks (capture given.bytes)))

-- the whole answer of a session
abbrev pub answer : Given → List ℕ
answer given = written g726 given.plan given.ticks given.bytes

-- the steps up to the verdict ended so: the session met no fault and took just the part of the capture that it needs, and the octets
-- were judged; or it met that fault
abbrev pub Finds : Given → List ℕ → (left : Option (List ℕ)) → Result (Option Difference) AuditStatus → Type 0
Finds given out left (Ok d) = (fault_met given ≡ None) × TakesPart given left × Judges out (sendings given) d
Finds given out left (Err (DumpFault at kind)) = fault_met given ≡ Some (record { at = at; kind = kind })
Finds given out left (Err ReadFault) = Unit {0}
Finds given out left (Err Memory) = Unit {0}
Finds given out left (Err status) = ⊥

-- a verdict is right: the octets are the answer; or they aren't, and first differ from it just there
abbrev pub IsRight : Given → List ℕ → AuditStatus → Type 0
IsRight given out Yes = out ≡ answer given
IsRight given out (No at part place) =
    (out ≢ answer given) × (record { at = at; part = part; place = place } ≡ first_difference out (sendings given))
IsRight given out status = ⊥

-- the call ended so
abbrev pub CallFinds : Given → List ℕ → (left : Option (List ℕ)) → AuditStatus → Type 0
CallFinds given out left Yes = (fault_met given ≡ None) × TakesPart given left × IsRight given out Yes
CallFinds given out left (No at part place) = (fault_met given ≡ None) × TakesPart given left × IsRight given out (No at part place)
CallFinds given out left (DumpFault at kind) = fault_met given ≡ Some (record { at = at; kind = kind })
CallFinds given out left ReadFault = Unit {0}
CallFinds given out left WriteFault = Unit {0}
CallFinds given out left Memory = Unit {0}
CallFinds given out left status = ⊥
