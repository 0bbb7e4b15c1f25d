-- How the steps of a session end.
use Rattle.std.proofs.Common.{◌≡◌, ◌≢◌, ℕ, ◌<◌, ◌≤◌, ◌⊎◌, ⊎_elim, inl, inr, List, length, append-nil, refl, sym, ◌∙◌, ap, subst, arith}
use Rattle.std.specs.Prelude.{Option, Some, None, Result, Ok, Err, IfOk, IfSome, IsOk}
use Rattle.edge_io.specs.File.{File, untold, missing, content}
use Rattle.edge_io.specs.Told.{Grows, GrowsByFront}
use Rattle.roster_text.specs.declared.commands.Timed.{Timed}
use Rattle.roster_text.specs.Roster.{Told, Fault, roster, ticks_of}
use Rattle.conference_spec.specs.Feed.{Feed}
use Rattle.roster_text.specs.declared.faults.RosterKind.{RosterKind}
use Rattle.session_spec.specs.declared.Summary.{Summary}
use Rattle.desk_run.specs.declared.run.RunEnd.{RunEnd}
use Rattle.desk_run.specs.Whole.{Given, Traces, RunEnds, Finished}
use Rattle.program_edge.specs.Report.{TellsAfter}
use Rattle.bridge_calls.specs.declared.status.Status.{Status}
use Rattle.bridge_calls.specs.declared.status.Status.TheVariants.{Done, Usage, RosterFault, RosterLong, DumpFault, ReadFault, WriteFault, Memory}
use Rattle.session_edge.specs.Given.{IfRoster, IfContent}
use Rattle.bridge_calls.specs.Causes.{IsTakeEnd, IsRosterEnd, IsOutputEnd, OnRosterFault}
use Rattle.bridge_calls.specs.Ends.{IfSession, Ends, CallEnds, Telling, HasRisen, TellsLine}
use Rattle.session_edge.specs.Texts.{summary_line}
use Rattle.bridge_calls.specs.Texts.{line_of}

-- what a roster, and a capture of these octets, give a session
abbrev pub gives : List Timed → ℕ → List ℕ → Given
gives plan ticks bytes = record { plan = plan; ticks = ticks; bytes = bytes }

abbrev pub given_of : Told → List ℕ → Given
given_of told bytes = gives told.timed (ticks_of told.end) bytes

-- a run's end, said of the roster
pub ended-told : (rest : Option (List ℕ)) (plan plan' : List Timed) (ticks ticks' : ℕ) (t : Traces) (book : Feed → Type 0) (r r' : RunEnd)
    → plan ≡ plan' → ticks ≡ ticks' → r ≡ r'
    → IfSome rest (λ bytes. RunEnds (gives plan ticks bytes) t book r) → IfSome rest (λ bytes. RunEnds (gives plan' ticks' bytes) t book r')
ended-told rest plan plan' ticks ticks' t book r r' p n e h =
    subst (λ (q : RunEnd). IfSome rest (λ bytes. RunEnds (gives plan' ticks' bytes) t book q)) e
    (subst (λ (n : ℕ). IfSome rest (λ bytes. RunEnds (gives plan' n bytes) t book r)) n
    (subst (λ (cs : List Timed). IfSome rest (λ bytes. RunEnds (gives cs ticks bytes) t book r)) p h))

-- what is to be shown of a session, for each that is told
pub if-session : (name : Option (List ℕ)) (file : List ℕ → File) (dump : Option (List ℕ)) (P : Given → Type 0)
    → ((n text : List ℕ) (told : Told) (bytes : List ℕ) → name ≡ Some n → file n ≡ content text → length text ≤ 1048576 → roster text ≡ Ok told
    → P (given_of told bytes))
    → IfSession name file dump P
if-session None file dump P f = tt
if-session (Some n) file dump P f = by-file (file n) refl
  where
    by-dump : (d : Option (List ℕ)) (told : Told) → ((bytes : List ℕ) → P (given_of told bytes)) → IfSome d (λ bytes. P (given_of told bytes))
    by-dump None told g = tt
    by-dump (Some bytes) told g = g bytes

    by-roster : (r : Result Told Fault) → ((told : Told) → r ≡ Ok told → (bytes : List ℕ) → P (given_of told bytes))
        → IfOk r (λ told. IfSome dump (λ bytes. P (given_of told bytes)))
    by-roster (Ok told) g = by-dump dump told (g told refl)
    by-roster (Err fault) g = tt

    by-file : (c : File) → file n ≡ c → IfContent c (λ text. length text ≤ 1048576 → IfOk (roster text) (λ told. IfSome dump (λ bytes. P (given_of told bytes))))
    by-file untold e = tt
    by-file missing e = tt
    by-file (content text) e = λ short. by-roster (roster text) (λ told r bytes. f n text told bytes refl e short r)

-- what follows for each session that is told
pub session-with : (name : Option (List ℕ)) (file : List ℕ → File) (dump : Option (List ℕ)) (P Q : Given → Type 0)
    → ((given : Given) → P given → Q given) → IfSession name file dump P → IfSession name file dump Q
session-with None file dump P Q f h = tt
session-with (Some n) file dump P Q f h = by-file (file n) h
  where
    by-dump : (d : Option (List ℕ)) (told : Told) → IfSome d (λ bytes. P (given_of told bytes)) → IfSome d (λ bytes. Q (given_of told bytes))
    by-dump None told h = tt
    by-dump (Some bytes) told h = f (given_of told bytes) h

    by-roster : (r : Result Told Fault) → IfOk r (λ told. IfSome dump (λ bytes. P (given_of told bytes))) → IfOk r (λ told. IfSome dump (λ bytes. Q (given_of told bytes)))
    by-roster (Ok told) h = by-dump dump told h
    by-roster (Err fault) h = tt

    by-file : (c : File) → IfContent c (λ text. length text ≤ 1048576 → IfOk (roster text) (λ told. IfSome dump (λ bytes. P (given_of told bytes))))
        → IfContent c (λ text. length text ≤ 1048576 → IfOk (roster text) (λ told. IfSome dump (λ bytes. Q (given_of told bytes))))
    by-file untold h = tt
    by-file missing h = tt
    by-file (content text) h = λ short. by-roster (roster text) (h short)

-- what is said of a roster that is told
pub roster-with : (name : Option (List ℕ)) (file : List ℕ → File) (P Q : List ℕ → Type 0) → ((text : List ℕ) → P text → Q text) → IfRoster name file P → IfRoster name file Q
roster-with None file P Q f h = tt
roster-with (Some n) file P Q f h = by-file (file n) h
  where
    by-file : (c : File) → IfContent c P → IfContent c Q
    by-file untold h = tt
    by-file missing h = tt
    by-file (content text) h = f text h

is-ok : {X E : Type 0} (r : Result X E) (x : X) → r ≡ Ok x → IsOk r
is-ok r x e = rw e refl

-- a roster that was taken and read is short enough and has no bad line
pub good-roster : (octets : List ℕ) (told : Told) (name : Option (List ℕ)) (file : List ℕ → File) → length octets ≤ 1048576 → roster octets ≡ Ok told
    → IfRoster name file (λ text. octets ≡ text) → IfRoster name file (λ text. (length text ≤ 1048576) × IsOk (roster text))
good-roster octets told name file short read whole =
    roster-with name file (λ text. octets ≡ text) (λ text. (length text ≤ 1048576) × IsOk (roster text))
    (λ text same. (subst (λ (xs : List ℕ). length xs ≤ 1048576) same short, is-ok (roster text) told (ap roster (sym same) ∙ read))) whole

-- nothing was written
pub front-none : (out : Option (List ℕ)) (piece : List ℕ) → GrowsByFront out out piece
front-none None piece = refl
front-none (Some held) piece = (0, ap Some (sym (append-nil held)))

-- what is said of the roster's text
pub roster-text : (name : Option (List ℕ)) (file : List ℕ → File) (n text : List ℕ) (P : List ℕ → Type 0) → name ≡ Some n → file n ≡ content text → IfRoster name file P → P text
roster-text name file n text P nm fl h =
    subst (λ (c : File). IfContent c P) fl (subst (λ (o : Option (List ℕ)). IfRoster o file P) nm h)

none-some : (n : List ℕ) → None ≡ Some n → ⊥
none-some n e = cc

err-ok : (line : ℕ) (kind : RosterKind) (told : Told) → ◌≡◌ {A = Result Told Fault} (Err (record { line = line; kind = kind })) (Ok told) → ⊥
err-ok line kind told e = cc

-- nothing was taken of the capture, and nothing was written
abbrev pub unmoved : Option (List ℕ) → Option (List ℕ) → Traces
unmoved left out = record { left = left; old = out; new = out }

-- a session whose roster wasn't taken
pub take-ends : (e : Status) (name : Option (List ℕ)) (file : List ℕ → File) (dump left out : Option (List ℕ)) (book : Feed → Type 0) (rose : Type 0) → IsTakeEnd e
    → (e ≡ Usage → name ≡ None) → (e ≡ RosterLong → IfRoster name file (λ text. 1048576 < length text)) → (e ≡ ReadFault → rose)
    → IfSession name file dump (λ given. Ends given (unmoved left out) book rose (Err e))
take-ends e name file dump left out book rose is usage long read =
    if-session name file dump (λ given. Ends given (unmoved left out) book rose (Err e))
    (λ n text told bytes nm fl short r. go e is usage long read n text (given_of told bytes) nm fl short)
  where
    go : (e : Status) → IsTakeEnd e → (e ≡ Usage → name ≡ None) → (e ≡ RosterLong → IfRoster name file (λ text. 1048576 < length text)) → (e ≡ ReadFault → rose)
        → (n text : List ℕ) (given : Given) → name ≡ Some n → file n ≡ content text → length text ≤ 1048576 → Ends given (unmoved left out) book rose (Err e)
    go Done is usage long read n text given nm fl short = absurd is
    go Usage is usage long read n text given nm fl short = (let bad : None ≡ Some n = sym (usage refl) ∙ nm in absurd (none-some n bad))
    go (RosterFault line kind) is usage long read n text given nm fl short = absurd is
    go RosterLong is usage long read n text given nm fl short =
        (let lt = roster-text name file n text (λ t. 1048576 < length t) nm fl (long refl) in absurd (omega arith))
    go (DumpFault at kind) is usage long read n text given nm fl short = absurd is
    go ReadFault is usage long read n text given nm fl short = inl (read refl, refl)
    go WriteFault is usage long read n text given nm fl short = absurd is
    go Memory is usage long read n text given nm fl short = front-none out _

-- a session whose roster has a bad line, or wasn't read for want of memory
pub roster-ends : (e : Status) (octets : List ℕ) (name : Option (List ℕ)) (file : List ℕ → File) (dump left out : Option (List ℕ)) (book : Feed → Type 0) (rose : Type 0) → IsRosterEnd e
    → OnRosterFault e (λ line kind. roster octets ≡ Err (record { line = line; kind = kind })) → IfRoster name file (λ text. octets ≡ text)
    → IfSession name file dump (λ given. Ends given (unmoved left out) book rose (Err e))
roster-ends e octets name file dump left out book rose is fault whole =
    if-session name file dump (λ given. Ends given (unmoved left out) book rose (Err e))
    (λ n text told bytes nm fl short r. go e is fault text told bytes (roster-text name file n text (λ t. octets ≡ t) nm fl whole) r)
  where
    go : (e : Status) → IsRosterEnd e → OnRosterFault e (λ line kind. roster octets ≡ Err (record { line = line; kind = kind }))
        → (text : List ℕ) (told : Told) (bytes : List ℕ) → octets ≡ text → roster text ≡ Ok told → Ends (given_of told bytes) (unmoved left out) book rose (Err e)
    go Done is fault text told bytes same r = absurd is
    go Usage is fault text told bytes same r = absurd is
    go (RosterFault line kind) is fault text told bytes same r = (let bad = sym fault ∙ (ap roster same ∙ r) in absurd (err-ok line kind told bad))
    go RosterLong is fault text told bytes same r = absurd is
    go (DumpFault at kind) is fault text told bytes same r = absurd is
    go ReadFault is fault text told bytes same r = absurd is
    go WriteFault is fault text told bytes same r = absurd is
    go Memory is fault text told bytes same r = front-none out _

-- the same, of an equal end
pub moved-session : (name : Option (List ℕ)) (file : List ℕ → File) (dump : Option (List ℕ)) (t : Traces) (book : Feed → Type 0) (rose : Type 0) (e : Status) (r : Result Summary Status) → r ≡ Err e
    → IfSession name file dump (λ given. Ends given t book rose (Err e)) → IfSession name file dump (λ given. Ends given t book rose r)
moved-session name file dump t book rose e r same h =
    subst (λ (q : Result Summary Status). IfSession name file dump (λ given. Ends given t book rose q)) (sym same) h

-- where all was run, the call ends as its summary's line was written
pub said-ends : (given : Given) (t : Traces) (book : Feed → Type 0) (shelf : Type 0) (e : Telling) (s : Summary) (r : Status)
    → (r ≡ Done) ⊎ IsOutputEnd r → (r ≡ Done → Grows e.old e.new (summary_line s)) → (r ≢ Done → TellsAfter e.old e.new (summary_line s) (line_of r) (HasRisen e))
    → Finished given t book s → CallEnds given t book shelf e r
said-ends given t book shelf e s Done ends done cut h = (s, h, done refl)
said-ends given t book shelf e s WriteFault ends done cut h = inr (s, h, cut (λ q. cc))
said-ends given t book shelf e s Memory ends done cut h = inr (s, h, cut (λ q. cc))
said-ends given t book shelf e s Usage ends done cut h = ⊎_elim (λ q. absurd (cc)) (λ is. absurd is) ends
said-ends given t book shelf e s (RosterFault line kind) ends done cut h = ⊎_elim (λ q. absurd (cc)) (λ is. absurd is) ends
said-ends given t book shelf e s RosterLong ends done cut h = ⊎_elim (λ q. absurd (cc)) (λ is. absurd is) ends
said-ends given t book shelf e s (DumpFault at kind) ends done cut h = ⊎_elim (λ q. absurd (cc)) (λ is. absurd is) ends
said-ends given t book shelf e s ReadFault ends done cut h = ⊎_elim (λ q. absurd (cc)) (λ is. absurd is) ends

-- where the steps were cut short, the status's line alone was told
pub told-ends : (given : Given) (t : Traces) (book : Feed → Type 0) (shelf : Type 0) (e : Telling) (r : Status)
    → TellsLine e r → Ends given t book shelf (Err r) → CallEnds given t book shelf e r
told-ends given t book shelf e Done told h = absurd h
told-ends given t book shelf e Usage told h = h
told-ends given t book shelf e (RosterFault line kind) told h = h
told-ends given t book shelf e RosterLong told h = h
told-ends given t book shelf e (DumpFault at kind) told h = h
told-ends given t book shelf e ReadFault told h = h
told-ends given t book shelf e WriteFault told h = inl (h, told)
told-ends given t book shelf e Memory told h = inl (h, told)
