-- Which fault a session meets, and what it writes of a capture whose line or file head is at fault.
use Rattle.std.proofs.Common.{◌≡◌, ◌∙◌, ℕ, ◌+◌, ◌≤◌, inl, inr, zero, suc, Bool, true, false, List, [], ◌++◌, length, take, drop, append-nil, append_assoc, length-append, refl, sym, ap, subst, arith}
use Rattle.std.specs.Prelude.{Option, Some, None, Result, Ok, Err, IsSome, nat_lt, if◌then◌else◌}
use Rattle.std.specs.Option.{option_or, option_map}
use Rattle.std.proofs.Math.ListN.{take-append-drop, length-take}
use Rattle.std.proofs.lemmas.Bool.Decides.{nat_tests}
use Rattle.edge_io.specs.Told.{Grows, GrowsByFront}
use Rattle.rtp_dump.specs.declared.faults.DumpKind.{DumpKind}
use Rattle.rtp_dump.specs.Spelling.{Fault, Capture, Placed}
use Rattle.rtp_dump.specs.Capture.{capture, capture_of, line_at, opening, opening_of}
use Rattle.rtp_dump.proofs.LineLaws.{line_at-line, is_line}
use Rattle.rtp_dump.proofs.Lines.{LineFact, line_at-fact}
use Rattle.conference_spec.specs.Codec.{g726}
use Rattle.conference_spec.specs.Feed.{Feed}
use Rattle.session_spec.specs.declared.Summary.{Summary}
use Rattle.session_spec.specs.Captured.{Meeting, met, head_fault, fault_in, ticks_ended, items}
use Rattle.session_spec.specs.Answer.{after_head, written, ticks_text}
use Rattle.desk_run.specs.Whole.{Given, Traces, MeetsFault, Stalled, feed_to}
use Rattle.bridge_calls.specs.declared.status.Status.{Status}
use Rattle.bridge_calls.specs.declared.status.Status.TheVariants.{Done, Usage, RosterFault, RosterLong, DumpFault, ReadFault, WriteFault, Memory}
use Rattle.bridge_calls.specs.Causes.{IsRunEnd}
use Rattle.bridge_calls.specs.Ends.{Ends, fault_met}

-- no fault is met where there is none in the head and none among the records
or-none : (a : Option Fault) (m : Option Meeting) → option_or a (option_map (λ (x : Meeting). x.fault) m) ≡ None → (a ≡ None) × (m ≡ None)
or-none None None e = (refl, refl)
or-none None (Some m) e = absurd (cc)
or-none (Some f) m e = absurd (cc)

pub none-met : (given : Given) → fault_met given ≡ None → (head_fault given.bytes ≡ None) × (met given.ticks (capture given.bytes) ≡ None)
none-met given e = or-none (head_fault given.bytes) (met given.ticks (capture given.bytes)) e

pub none-met-back : (given : Given) → head_fault given.bytes ≡ None → met given.ticks (capture given.bytes) ≡ None → fault_met given ≡ None
none-met-back given head among = rw (head, among) refl

-- the fault that a run ended at is the one that is met
pub that-fault : (given : Given) (t : Traces) (at : ℕ) (kind : DumpKind) → MeetsFault given t at kind → fault_met given ≡ Some (record { at = at; kind = kind })
that-fault given t at kind (inl h) = rw h.0 refl
that-fault given t at kind (inr h) = rw (h.0, h.2) refl

pub no-fault : (given : Given) (t : Traces) (at : ℕ) (kind : DumpKind) → MeetsFault given t at kind → fault_met given ≡ None → ⊥
no-fault given t at kind h none = let bad = sym (that-fault given t at kind h) ∙ none in cc

-- a capture without a fault has none in its head
pub whole-head : (bytes : List ℕ) (records : List Placed) → capture bytes ≡ record { records = records; fault = None } → head_fault bytes ≡ None
unfolding capture
whole-head bytes records is = by-opening (opening bytes) (ap (λ (c : Capture). c.fault) is)
  where
    by-opening : (o : Result ℕ Fault) → (capture_of o bytes).fault ≡ None → fault_in o ≡ None
    by-opening (Ok len) h = refl
    by-opening (Err fault) h = absurd (cc)

pub whole-met : (ticks : ℕ) (bytes : List ℕ) (records : List Placed) → capture bytes ≡ record { records = records; fault = None } → met ticks (capture bytes) ≡ None
whole-met ticks bytes records is = ap (met ticks) is

-- a session without a fault, over ends that never fail, stops for want of memory alone
pub calm-memory : (given : Given) (t : Traces) (book : Feed → Type 0) (e : Status) → fault_met given ≡ None → IsRunEnd e → (e ≡ ReadFault → ⊥) → (e ≡ WriteFault → ⊥)
    → Ends given t book ⊥ (Err e) → e ≡ Memory
calm-memory given t book Done none is read write h = absurd is
calm-memory given t book Usage none is read write h = absurd is
calm-memory given t book (RosterFault line kind) none is read write h = absurd is
calm-memory given t book RosterLong none is read write h = absurd is
calm-memory given t book (DumpFault at kind) none is read write h = absurd (no-fault given t at kind h none)
calm-memory given t book ReadFault none is read write h = absurd (read refl)
calm-memory given t book WriteFault none is read write h = absurd (write refl)
calm-memory given t book Memory none is read write h = refl

long-enough : (n limit : ℕ) (f : Fault) → fault_in (if nat_lt n limit then Err f else Ok limit) ≡ None → limit ≤ n
long-enough n limit f h = by-test (nat_lt n limit) refl h
  where
    by-test : (b : Bool) → nat_lt n limit ≡ b → fault_in (if b then Err f else Ok limit) ≡ None → limit ≤ n
    by-test true e h = absurd (cc)
    by-test false e h = grind (arith, nat_tests)

not-below : (n limit : ℕ) → limit ≤ n → nat_lt n limit ≡ false
not-below n limit h = grind (arith, nat_tests)

-- a line and a file head that stand whole in a front stand in all of the octets
head-stays : (front after : List ℕ) → head_fault front ≡ None → head_fault (front ++ after) ≡ None
head-stays front after none = by-line (line_at front) refl (line_at-fact front) none
  where
    by-line : (l : Result ℕ ℕ) → line_at front ≡ l → LineFact front l → fault_in (opening_of l front) ≡ None → head_fault (front ++ after) ≡ None
    by-line (Err at) e fact none = absurd (cc)
    by-line (Ok len) e fact none =
        let within : len ≤ length front = fact.2 in
        let exact : length (take len front) ≡ len = omega (arith, length-take len front) in
        let whole : front ++ after ≡ take len front ++ (drop len front ++ after) =
        ap (λ (xs : List ℕ). xs ++ after) (sym (take-append-drop len front)) ∙ append_assoc (take len front) (drop len front) after in
        let is : line_at (front ++ after) ≡ Ok len =
        ap line_at whole ∙ line_at-line (take len front) (drop len front ++ after) (is_line front len fact) ∙ ap Ok exact in
        let long : len + 16 ≤ length front = long-enough (length front) (len + 16) _ none in
        let P : Result ℕ ℕ → Type 0 = λ l. fault_in (opening_of l (front ++ after)) ≡ None in
        subst P (sym is) (rw (not-below (length (front ++ after)) (len + 16) (omega (arith, length-append front after))) refl)

-- of a capture whose line or file head is at fault nothing is written
nothing : (old new : Option (List ℕ)) → Grows old new [] → new ≡ old
nothing None new h = h
nothing (Some held) new h = h ∙ ap Some (append-nil held)

take-nil : (n : ℕ) → ◌≡◌ {A = List ℕ} (take n []) []
take-nil zero = refl
take-nil (suc n) = refl

no-front : (old new : Option (List ℕ)) (text : List ℕ) → text ≡ [] → GrowsByFront old new text → new ≡ old
no-front None new text none h = h
no-front (Some held) new text none h =
    let cut : take h.0 text ≡ [] = ap (take h.0) none ∙ take-nil h.0 in
    h.1 ∙ ap (λ (xs : List ℕ). Some (held ++ xs)) cut ∙ ap Some (append-nil held)

written-none : (given : Given) (fault : Fault) → head_fault given.bytes ≡ Some fault → written g726 given.plan given.ticks given.bytes ≡ []
unfolding written
written-none given fault e = rw e refl

some-of : (o : Option Fault) → IsSome o → (f : Fault) × (o ≡ Some f)
some-of None h = absurd (cc)
some-of (Some f) h = (f, refl)

stalled-none : (given : Given) (t : Traces) (fault : Fault) → head_fault given.bytes ≡ Some fault → Stalled given t → t.new ≡ t.old
stalled-none given t fault e h = by-head (head_fault h.front) refl h.answer
  where
    text : List ℕ
    text = let k = ticks_ended (items (capture h.front)) in ticks_text g726 k (feed_to given k)

    by-head : (o : Option Fault) → head_fault h.front ≡ o → Grows t.old t.new (after_head o text) → t.new ≡ t.old
    by-head None none g =
        let stays = head-stays h.front h.after none in
        let bad : ◌≡◌ {A = Option Fault} (Some fault) None = sym e ∙ ap head_fault h.whole ∙ stays in
        absurd (cc)
    by-head (Some f) some g = nothing t.old t.new g

pub headless : (given : Given) (t : Traces) (book : Feed → Type 0) (shelf : Type 0) (r : Result Summary Status) → Ends given t book shelf r → IsSome (head_fault given.bytes) → t.new ≡ t.old
headless given t book shelf (Ok s) h some = let bad = rw h.head at some in absurd (cc)
headless given t book shelf (Err Done) h some = absurd h
headless given t book shelf (Err Usage) h some = absurd h
headless given t book shelf (Err (RosterFault line kind)) h some = absurd h
headless given t book shelf (Err RosterLong) h some = absurd h
headless given t book shelf (Err (DumpFault at kind)) (inl h) some = h.1
headless given t book shelf (Err (DumpFault at kind)) (inr h) some = let bad = rw h.0 at some in absurd (cc)
headless given t book shelf (Err ReadFault) (inl h) some = h.1
headless given t book shelf (Err ReadFault) (inr h) some =
    let fault = some-of (head_fault given.bytes) some in
    stalled-none given t fault.0 fault.1 h
headless given t book shelf (Err WriteFault) h some =
    let fault = some-of (head_fault given.bytes) some in
    no-front t.old t.new (written g726 given.plan given.ticks given.bytes) (written-none given fault.0 fault.1) h
headless given t book shelf (Err Memory) h some =
    let fault = some-of (head_fault given.bytes) some in
    no-front t.old t.new (written g726 given.plan given.ticks given.bytes) (written-none given fault.0 fault.1) h
