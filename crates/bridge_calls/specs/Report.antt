-- What stands on the error stream after a call.
use Rattle.std.specs.Prelude.{ℕ, ◌⊎◌, List, Option}
use Rattle.edge_io.specs.Told.{Grows}
use Rattle.program_edge.specs.Report.{Tells, TellsAfter}
use Rattle.session_spec.specs.declared.Summary.{Summary}
use Rattle.bridge_calls.specs.declared.status.Status.{Status}
use Rattle.bridge_calls.specs.declared.status.Status.TheVariants.{Done, WriteFault, Memory}
use Rattle.session_edge.specs.Texts.{summary_line}
use Rattle.bridge_calls.specs.Texts.{line_of}

-- a front of a summary's line, which couldn't be written, and then the status's own line
abbrev pub TellsCut : Option (List ℕ) → Option (List ℕ) → List ℕ → Type 0 → Type 0
TellsCut old new line rose = (s : Summary) × TellsAfter old new (summary_line s) line rose × rose

-- by the status: a summary's line; or the status's own line, before which a front of a summary's line stands where that couldn't be
-- written
abbrev pub Reported : Status → Option (List ℕ) → Option (List ℕ) → (rose : Type 0) → Type 0
Reported Done old new rose = (s : Summary) × Grows old new (summary_line s)
Reported WriteFault old new rose = Tells old new (line_of WriteFault) rose ⊎ TellsCut old new (line_of WriteFault) rose
Reported Memory old new rose = Tells old new (line_of Memory) rose ⊎ TellsCut old new (line_of Memory) rose
Reported status old new rose = Tells old new (line_of status) rose
