-- How a report ends.
use Rattle.std.specs.Prelude.{◌≡◌, ℕ, List, Option, Some, None, Result, Ok, Err}
use Rattle.std.specs.Option.{option_or, option_map}
use Rattle.edge_io.specs.Told.{Grows, GrowsByFront}
use Rattle.rtp_dump.specs.Spelling.{Fault}
use Rattle.rtp_dump.specs.Capture.{capture}
use Rattle.session_spec.specs.Captured.{met, head_fault}
use Rattle.desk_run.specs.Whole.{Given, TakesPart}
use Rattle.program_edge.specs.Report.{Tells}
use Rattle.session_account.specs.declared.forms.Form.{Form}
use Rattle.session_report.specs.declared.status.ReportStatus.{ReportStatus}
use Rattle.session_report.specs.declared.status.ReportStatus.TheVariants.{Done, DumpFault, ReadFault, WriteFault, Memory}
use Rattle.session_account.specs.Account.{Account}
use Rattle.session_report.specs.Accounting.{account_of}
use Rattle.session_account.specs.Document.{document}
use Rattle.session_report.specs.Texts.{line_of}

-- the fault that a session meets: in the line or the file head of its capture, or among the records that it needs
abbrev pub fault_met : Given → Option Fault
fault_met given =
    option_or (head_fault given.bytes) (option_map (λ m. m.fault) (met given.ticks (capture given.bytes)))

-- The steps up to the report ended so: the session met no fault and took just the part of the capture that it needs, and this is what
-- there is to say of it; or it met that fault.
abbrev pub Finds : Given → (left : Option (List ℕ)) → Result Account ReportStatus → Type 0
Finds given left (Ok account) = (fault_met given ≡ None) × TakesPart given left × (account ≡ account_of given)
Finds given left (Err (DumpFault at kind)) = fault_met given ≡ Some (record { at = at; kind = kind })
Finds given left (Err ReadFault) = Unit {0}
Finds given left (Err Memory) = Unit {0}
Finds given left (Err status) = ⊥

-- the output before the call, and after it
pub record Output : Type 0 where
  pub old : Option (List ℕ)
  pub new : Option (List ℕ)

-- a front of the report stands there
abbrev pub WritesFront : Given → Form → Output → Type 0
WritesFront given form out = GrowsByFront out.old out.new (document form (account_of given))

-- the call ended so: at Done with the whole report
abbrev pub CallReports : Given → Form → (left : Option (List ℕ)) → Output → ReportStatus → Type 0
CallReports given form left out Done =
    (fault_met given ≡ None) × TakesPart given left × Grows out.old out.new (document form (account_of given))
CallReports given form left out (DumpFault at kind) = (fault_met given ≡ Some (record { at = at; kind = kind })) × (out.new ≡ out.old)
CallReports given form left out ReadFault = out.new ≡ out.old
CallReports given form left out WriteFault = WritesFront given form out
CallReports given form left out Memory = WritesFront given form out
CallReports given form left out status = ⊥

-- what stands on the error stream: nothing more where the report was written, and else the status's line, which is tried once
abbrev pub Told : ReportStatus → Option (List ℕ) → Option (List ℕ) → (rose : Type 0) → Type 0
Told Done old new rose = new ≡ old
Told status old new rose = Tells old new (line_of status) rose
