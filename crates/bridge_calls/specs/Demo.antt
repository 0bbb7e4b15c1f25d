-- What a demo session comes to, and what its call writes.
use Rattle.std.specs.Prelude.{◌≡◌, ℕ, List, Option}
use Rattle.edge_io.specs.Told.{Grows, GrowsByFront}
use Rattle.program_edge.specs.Report.{Tells}
use Rattle.roster_text.specs.Roster.{ticks_of}
use Rattle.rtp_dump.specs.Capture.{capture as read_capture}
use Rattle.conference_spec.specs.Codec.{g726}
use Rattle.session_spec.specs.declared.Summary.{Summary}
use Rattle.session_spec.specs.Answer.{summary_of}
use Rattle.demo_gen.specs.Commands.{told}
use Rattle.demo_gen.specs.Capture.{capture}
use Rattle.bridge_calls.specs.declared.status.Status.{Status}
use Rattle.bridge_calls.specs.declared.status.Status.TheVariants.{Done, WriteFault, Memory}
use Rattle.bridge_calls.specs.Texts.{line_of}

-- what the roster and the capture of this number come to
abbrev pub demo_summary : ℕ → Summary
demo_summary number = summary_of g726 told.timed (ticks_of told.end) (read_capture (capture number))

-- the call ended so: with the line, or with a front of it where that couldn't be written or there was no memory
abbrev pub DemoEnds : List ℕ → Option (List ℕ) → Option (List ℕ) → Status → Type 0
DemoEnds line old new Done = Grows old new line
DemoEnds line old new WriteFault = GrowsByFront old new line
DemoEnds line old new Memory = GrowsByFront old new line
DemoEnds line old new status = ⊥

-- by the status: nothing, or the status's own line, tried once
abbrev pub Reports : Status → Option (List ℕ) → Option (List ℕ) → (rose : Type 0) → Type 0
Reports Done old new rose = new ≡ old
Reports status old new rose = Tells old new (line_of status) rose
