-- What stands on the output after an audit.
use Rattle.std.specs.Prelude.{ℕ, ◌⊎◌, List, Option}
use Rattle.edge_io.specs.Told.{Grows}
use Rattle.program_edge.specs.Report.{Tells, TellsAfter}
use Rattle.audit_check.specs.declared.status.AuditStatus.{AuditStatus}
use Rattle.audit_check.specs.declared.status.AuditStatus.TheVariants.{Yes, No, WriteFault, Memory}
use Rattle.audit_check.specs.Causes.{IsVerdict}
use Rattle.audit_check.specs.Texts.{line_of}

-- a front of a verdict's line, which couldn't be written, and then the status's own line
abbrev pub TellsCut : Option (List ℕ) → Option (List ℕ) → List ℕ → Type 0 → Type 0
TellsCut old new line rose = (verdict : AuditStatus) × IsVerdict verdict × TellsAfter old new (line_of verdict) line rose × rose

-- by the status: a verdict's line; or the status's own line, before which a front of a verdict's line stands where that couldn't be
-- written
abbrev pub Reported : AuditStatus → Option (List ℕ) → Option (List ℕ) → (rose : Type 0) → Type 0
Reported Yes old new rose = Grows old new (line_of Yes)
Reported (No at part place) old new rose = Grows old new (line_of (No at part place))
Reported WriteFault old new rose = TellsCut old new (line_of WriteFault) rose
Reported Memory old new rose = Tells old new (line_of Memory) rose ⊎ TellsCut old new (line_of Memory) rose
Reported status old new rose = Tells old new (line_of status) rose
