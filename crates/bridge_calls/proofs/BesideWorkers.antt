-- How a call beside workers ends: what is found by itself where a session runs alone.
use Rattle.std.proofs.Common.{◌≡◌, ◌≢◌, ℕ, ◌<◌, ◌≤◌, ◌⊎◌, ⊎_elim, inl, inr, List, length, refl, sym, subst}
use Rattle.std.specs.Prelude.{Option, Some, None, Result, Ok, Err, IfErr, IfSome}
use Rattle.edge_io.specs.File.{File, missing}
use Rattle.edge_io.specs.Told.{Grows}
use Rattle.roster_text.specs.Roster.{Fault, roster}
use Rattle.rtp_dump.specs.Spelling.{Fault as Place}
use Rattle.conference_spec.specs.Feed.{Feed}
use Rattle.session_spec.specs.declared.Summary.{Summary}
use Rattle.desk_run.specs.Whole.{Given, Traces}
use Rattle.program_edge.specs.Report.{TellsAfter}
use Rattle.session_edge.specs.Given.{IfRoster}
use Rattle.session_edge.specs.Texts.{summary_line}
use Rattle.bridge_calls.specs.declared.status.Status.{Status}
use Rattle.bridge_calls.specs.declared.status.Status.TheVariants.{Done, Usage, RosterFault, RosterLong, DumpFault, ReadFault, WriteFault, Memory}
use Rattle.bridge_calls.specs.Causes.{IsOutputEnd, IsUnlessMemory, EndsUnlessMemory}
use Rattle.bridge_calls.specs.Ends.{Ends, fault_met}
use Rattle.bridge_calls.specs.Report.{Reported}
use Rattle.bridge_calls.specs.Texts.{line_of}
use Rattle.bridge_calls.proofs.Faults.{that-fault, no-fault}
use Rattle.bridge_calls.proofs.Sessions.{roster-with}

-- what stands on the error stream where all was run
pub said-reported : (old new : Option (List ℕ)) (rose : Type 0) (s : Summary) (r : Status) → (r ≡ Done) ⊎ IsOutputEnd r → (r ≡ Done → Grows old new (summary_line s))
    → (r ≢ Done → TellsAfter old new (summary_line s) (line_of r) rose) → (r ≢ Done → rose) → Reported r old new rose
said-reported old new rose s Done ends done cut risen = (s, done refl)
said-reported old new rose s WriteFault ends done cut risen = inr (s, cut (λ q. cc), risen (λ q. cc))
said-reported old new rose s Memory ends done cut risen = inr (s, cut (λ q. cc), risen (λ q. cc))
said-reported old new rose s Usage ends done cut risen = ⊎_elim (λ q. absurd (cc)) (λ is. absurd is) ends
said-reported old new rose s (RosterFault line kind) ends done cut risen = ⊎_elim (λ q. absurd (cc)) (λ is. absurd is) ends
said-reported old new rose s RosterLong ends done cut risen = ⊎_elim (λ q. absurd (cc)) (λ is. absurd is) ends
said-reported old new rose s (DumpFault at kind) ends done cut risen = ⊎_elim (λ q. absurd (cc)) (λ is. absurd is) ends
said-reported old new rose s ReadFault ends done cut risen = ⊎_elim (λ q. absurd (cc)) (λ is. absurd is) ends

-- the steps that were cut short for this reason or for want of memory
abbrev pub cut_short : Status → Status → Type 0
cut_short e s = EndsUnlessMemory {X = Summary} (Err e) s

-- the call ends as its steps were cut short
ends-so : (r e s : Status) → r ≡ e → cut_short e s → IsUnlessMemory r s
ends-so r e s same (inl h) = inl (cc)
ends-so r e s same (inr h) = inr (cc)

ends-or : (r e s : Status) (rose : Type 0) → r ≡ e → cut_short e s ⊎ rose → IsUnlessMemory r s ⊎ rose
ends-or r e s rose same (inl h) = inl (ends-so r e s same h)
ends-or r e s rose same (inr h) = inr h

some-with : {X : Type 0} (o : Option X) (P Q : X → Type 0) → ((x : X) → P x → Q x) → IfSome o P → IfSome o Q
some-with None P Q f h = tt
some-with (Some x) P Q f h = f x h

err-with : {X E : Type 0} (o : Result X E) (P Q : E → Type 0) → ((x : E) → P x → Q x) → IfErr o P → IfErr o Q
err-with (Ok x) P Q f h = tt
err-with (Err x) P Q f h = f x h

-- a roster that isn't there
pub missing-ends : (name : Option (List ℕ)) (file : List ℕ → File) (r e : Status) (kept : Type 0) → r ≡ e
    → IfSome name (λ n. file n ≡ missing → cut_short e ReadFault × kept) → IfSome name (λ n. file n ≡ missing → IsUnlessMemory r ReadFault × kept)
missing-ends name file r e kept same h =
    some-with name (λ n. file n ≡ missing → cut_short e ReadFault × kept) (λ n. file n ≡ missing → IsUnlessMemory r ReadFault × kept)
    (λ n f none. (ends-so r e ReadFault same (f none).0, (f none).1)) h

-- a roster that is too long
pub long-ends : (name : Option (List ℕ)) (file : List ℕ → File) (r e : Status) (rose : Type 0) → r ≡ e
    → IfRoster name file (λ text. 1048576 < length text → cut_short e RosterLong ⊎ rose)
    → IfRoster name file (λ text. 1048576 < length text → IsUnlessMemory r RosterLong ⊎ rose)
long-ends name file r e rose same h =
    roster-with name file (λ text. 1048576 < length text → cut_short e RosterLong ⊎ rose) (λ text. 1048576 < length text → IsUnlessMemory r RosterLong ⊎ rose)
    (λ text f long. ends-or r e RosterLong rose same (f long)) h

-- a roster with a bad line
pub bad-line-ends : (name : Option (List ℕ)) (file : List ℕ → File) (r e : Status) (rose : Type 0) → r ≡ e
    → IfRoster name file (λ text. length text ≤ 1048576 → IfErr (roster text) (λ fault. cut_short e (RosterFault fault.line fault.kind) ⊎ rose))
    → IfRoster name file (λ text. length text ≤ 1048576 → IfErr (roster text) (λ fault. IsUnlessMemory r (RosterFault fault.line fault.kind) ⊎ rose))
bad-line-ends name file r e rose same h =
    let P : Fault → Type 0 = λ fault. cut_short e (RosterFault fault.line fault.kind) ⊎ rose in
    let Q : Fault → Type 0 = λ fault. IsUnlessMemory r (RosterFault fault.line fault.kind) ⊎ rose in
    roster-with name file (λ text. length text ≤ 1048576 → IfErr (roster text) P) (λ text. length text ≤ 1048576 → IfErr (roster text) Q)
    (λ text f short. err-with (roster text) P Q (λ fault so. ends-or r e (RosterFault fault.line fault.kind) rose same so) (f short)) h

-- a session without a fault is cut short by a failed call, or for want of memory
pub cut-only : (given : Given) (t : Traces) (book : Feed → Type 0) (shelf F S K E : Type 0) (r e : Status) → r ≡ e → Ends given t book shelf (Err e) → (e ≡ ReadFault → F ⊎ S) → (e ≡ WriteFault → K)
    → fault_met given ≡ None → IsUnlessMemory r Done ⊎ F ⊎ S ⊎ K ⊎ E
cut-only given t book shelf F S K E r (DumpFault at kind) same h read write none = absurd (no-fault given t at kind h none)
cut-only given t book shelf F S K E r ReadFault same h read write none = ⊎_elim (λ f. inr (inl f)) (λ s. inr (inr (inl s))) (read refl)
cut-only given t book shelf F S K E r WriteFault same h read write none = inr (inr (inr (inl (write refl))))
cut-only given t book shelf F S K E r Memory same h read write none = inl (inr same)
cut-only given t book shelf F S K E r Done same h read write none = absurd h
cut-only given t book shelf F S K E r Usage same h read write none = absurd h
cut-only given t book shelf F S K E r (RosterFault line kind) same h read write none = absurd h
cut-only given t book shelf F S K E r RosterLong same h read write none = absurd h

for-some : {X : Type 0} (o : Option X) (P : X → Type 0) → ((x : X) → P x) → IfSome o P
for-some None P f = tt
for-some (Some x) P f = f x

-- the one fault that a session that was cut short can have ended at
pub fault-only : (given : Given) (t : Traces) (book : Feed → Type 0) (shelf F S K : Type 0) (r e : Status) → r ≡ e → Ends given t book shelf (Err e) → (e ≡ ReadFault → F ⊎ S) → (e ≡ WriteFault → K)
    → IfSome (fault_met given) (λ fault. IsUnlessMemory r (DumpFault fault.at fault.kind) ⊎ F ⊎ S ⊎ K)
fault-only given t book shelf F S K r (DumpFault at kind) same h read write =
    subst (λ (o : Option Place). IfSome o (λ fault. IsUnlessMemory r (DumpFault fault.at fault.kind) ⊎ F ⊎ S ⊎ K)) (sym (that-fault given t at kind h)) (inl (inl same))
fault-only given t book shelf F S K r ReadFault same h read write =
    for-some (fault_met given) (λ fault. IsUnlessMemory r (DumpFault fault.at fault.kind) ⊎ F ⊎ S ⊎ K)
    (λ fault. ⊎_elim (λ f. inr (inl f)) (λ s. inr (inr (inl s))) (read refl))
fault-only given t book shelf F S K r WriteFault same h read write =
    for-some (fault_met given) (λ fault. IsUnlessMemory r (DumpFault fault.at fault.kind) ⊎ F ⊎ S ⊎ K) (λ fault. inr (inr (inr (write refl))))
fault-only given t book shelf F S K r Memory same h read write =
    for-some (fault_met given) (λ fault. IsUnlessMemory r (DumpFault fault.at fault.kind) ⊎ F ⊎ S ⊎ K) (λ fault. inl (inr same))
fault-only given t book shelf F S K r Done same h read write = absurd h
fault-only given t book shelf F S K r Usage same h read write = absurd h
fault-only given t book shelf F S K r (RosterFault line kind) same h read write = absurd h
fault-only given t book shelf F S K r RosterLong same h read write = absurd h
