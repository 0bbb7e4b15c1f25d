-- What a session has written and taken, by the way that it ended.
use Rattle.std.specs.Prelude.{◌≡◌, ◌≤◌, ◌⊎◌, ℕ, List, length, Option, Result, Ok, Err, IfOk, IfSome}
use Rattle.std.specs.Option.{option_or, option_map}
use Rattle.edge_io.specs.Told.{Grows, Rose}
use Rattle.edge_io.specs.File.{File}
use Rattle.roster_text.specs.Roster.{roster, ticks_of}
use Rattle.rtp_dump.specs.Spelling.{Fault}
use Rattle.rtp_dump.specs.Capture.{capture}
use Rattle.conference_spec.specs.Codec.{g726}
use Rattle.conference_spec.specs.Feed.{Feed}
use Rattle.session_spec.specs.declared.Summary.{Summary}
use Rattle.session_spec.specs.Captured.{met, head_fault}
use Rattle.session_spec.specs.Answer.{written}
use Rattle.desk_run.specs.Whole.{Given, Traces, Finished, MeetsFault, Stalled, WritesFront}
use Rattle.program_edge.specs.Report.{Tells, TellsAfter}
use Rattle.bridge_calls.specs.declared.status.Status.{Status}
use Rattle.bridge_calls.specs.declared.status.Status.TheVariants.{Done, DumpFault, ReadFault, WriteFault, Memory}
use Rattle.session_edge.specs.Given.{IfRoster}
use Rattle.session_edge.specs.Texts.{summary_line}
use Rattle.bridge_calls.specs.Texts.{line_of}

-- where the words name a roster of a lawful length without a bad line, and roster and capture are told, it is so of what the
-- session is given
abbrev pub IfSession : Option (List ℕ) → (List ℕ → File) → Option (List ℕ) → (Given → Type 0) → Type 0
IfSession name file dump P =
    IfRoster name file (λ text. length text ≤ 1048576 → IfOk (roster text) (λ told.
    IfSome dump (λ bytes. P (record { plan = told.timed; ticks = ticks_of told.end; bytes = bytes }))))

-- the steps up to the summary ended so; `shelf` is that the roster couldn't be read
abbrev pub Ends : Given → Traces → (Feed → Type 0) → (shelf : Type 0) → Result Summary Status → Type 0
Ends given t book shelf (Ok s) = Finished given t book s
Ends given t book shelf (Err (DumpFault at kind)) = MeetsFault given t at kind
Ends given t book shelf (Err ReadFault) = (shelf × (t.new ≡ t.old)) ⊎ Stalled given t
Ends given t book shelf (Err WriteFault) = WritesFront given t
Ends given t book shelf (Err Memory) = WritesFront given t
Ends given t book shelf (Err status) = ⊥

-- an end that lines are told to: what it held before and holds after, and its counts of failures and of wants of memory
pub record Telling : Type 0 where
  pub old : Option (List ℕ)
  pub new : Option (List ℕ)
  pub failed : ℕ × ℕ
  pub lacked : ℕ × ℕ

-- one of its counts rose
abbrev pub HasRisen : Telling → Type 0
HasRisen e = Rose e.failed.0 e.failed.1 ⊎ Rose e.lacked.0 e.lacked.1

-- the status's line alone was told
abbrev pub TellsLine : Telling → Status → Type 0
TellsLine e status = Tells e.old e.new (line_of status) (HasRisen e)

-- all was run and written, but of the summary's line a front stands before the status's own
abbrev pub Unsaid : Given → Traces → (Feed → Type 0) → Telling → Status → Type 0
Unsaid given t book e status =
    (s : Summary) × Finished given t book s × TellsAfter e.old e.new (summary_line s) (line_of status) (HasRisen e)

-- the call ended so: at Done with the summary's line; where that couldn't be written the answer is whole
abbrev pub CallEnds : Given → Traces → (Feed → Type 0) → (shelf : Type 0) → Telling → Status → Type 0
CallEnds given t book shelf e Done = (s : Summary) × Finished given t book s × Grows e.old e.new (summary_line s)
CallEnds given t book shelf e (DumpFault at kind) = MeetsFault given t at kind
CallEnds given t book shelf e ReadFault = (shelf × (t.new ≡ t.old)) ⊎ Stalled given t
CallEnds given t book shelf e WriteFault = (WritesFront given t × TellsLine e WriteFault) ⊎ Unsaid given t book e WriteFault
CallEnds given t book shelf e Memory = (WritesFront given t × TellsLine e Memory) ⊎ Unsaid given t book e Memory
CallEnds given t book shelf e status = ⊥

-- the whole answer was written
abbrev pub Wrote : Given → Traces → Type 0
Wrote given t = Grows t.old t.new (written g726 given.plan given.ticks given.bytes)

-- the fault that a session meets: in the line or the file head, or among the records that it needs
abbrev pub fault_met : Given → Option Fault
fault_met given =
    option_or (head_fault given.bytes) (option_map (λ m. m.fault) (met given.ticks (capture given.bytes)))
