-- What the session of a number comes to, over ends in memory.
use Rattle.std.proofs.Common.{◌≡◌, ◌∙◌, ℕ, ◌≤◌, List, length, refl, ap, arith}
use Rattle.std.specs.Prelude.{None, Result, Ok, Err, IfOk, IfErr, IsErrOf}
use Rattle.std.specs.Fmt.{digits}
use Rattle.edge_io.specs.Told.{Rose}
use Rattle.roster_text.specs.Roster.{Told, ticks_of, roster as read_roster}
use Rattle.rtp_dump.specs.Spelling.{Placed}
use Rattle.rtp_dump.specs.Capture.{capture as read_capture}
use Rattle.conference_spec.specs.Codec.{g726}
use Rattle.conference_spec.specs.Feed.{Feed}
use Rattle.session_spec.specs.declared.Summary.{Summary}
use Rattle.session_spec.specs.Answer.{summary_of}
use Rattle.demo_gen.specs.Roster.{roster}
use Rattle.demo_gen.specs.Commands.{told}
use Rattle.demo_gen.specs.Capture.{capture}
use Rattle.bridge_calls.specs.declared.status.Status.{Status}
use Rattle.bridge_calls.specs.declared.status.Status.TheVariants.{ReadFault, WriteFault, Memory}
use Rattle.bridge_calls.specs.Causes.{IsRunEnd}
use Rattle.bridge_calls.specs.Demo.{demo_summary}
use Rattle.desk_run.specs.Whole.{Traces}
use Rattle.bridge_calls.specs.Ends.{Ends}
use Rattle.bridge_calls.proofs.Sessions.{given_of}
use Rattle.bridge_calls.proofs.Faults.{calm-memory, none-met-back, whole-head, whole-met}

-- the roster isn't too long
pub roster-short : length roster ≤ 1048576
unfolding roster digits
roster-short = let long : length roster ≡ 555 = refl in omega arith

pub comes-to : (number : ℕ) (text bytes : List ℕ) (t : Told) (tr : Traces) (book : Feed → Type 0) (r : Result Summary Status)
    → text ≡ roster → bytes ≡ capture number → read_roster text ≡ Ok t → read_roster roster ≡ Ok told
    → Ends (given_of t bytes) tr book ⊥ r → IfOk r (λ s. s ≡ demo_summary number)
comes-to number text bytes t tr book (Ok s) is-text is-bytes read lawful h =
    let same : t ≡ told = cc in
    h.summary_is
    ∙ ap (λ (x : Told). summary_of g726 x.timed (ticks_of x.end) (read_capture bytes)) same
    ∙ ap (λ (x : List ℕ). summary_of g726 told.timed (ticks_of told.end) (read_capture x)) is-bytes
comes-to number text bytes t tr book (Err e) is-text is-bytes read lawful h = tt

pub no-memory : (number : ℕ) (bytes : List ℕ) (t : Told) (tr : Traces) (book : Feed → Type 0) (records : List Placed) (r : Result Summary Status)
    → bytes ≡ capture number → read_capture (capture number) ≡ record { records = records; fault = None } → IfErr r IsRunEnd
    → (IsErrOf r ReadFault → Rose 0 0) → (IsErrOf r WriteFault → Rose 0 0)
    → Ends (given_of t bytes) tr book ⊥ r → IfErr r (λ status. status ≡ Memory)
no-memory number bytes t tr book records (Ok s) is-bytes whole is read write h = tt
no-memory number bytes t tr book records (Err e) is-bytes whole is read write h =
    let is-whole = ap read_capture is-bytes ∙ whole in
    calm-memory (given_of t bytes) tr book e
    (none-met-back (given_of t bytes) (whole-head bytes records is-whole) (whole-met (ticks_of t.end) bytes records is-whole))
    is (λ failed. let bad = read (ap Err failed) in absurd (omega arith)) (λ failed. let bad = write (ap Err failed) in absurd (omega arith)) h
