-- What a session that was run in memory comes to.
use Rattle.std.proofs.lemmas.Bool.Decides.{nat_tests}
use Rattle.rtp_dump.specs.declared.item.DumpItem.{DumpItem}
use Rattle.std.proofs.Common.{Bool, true, false, append-nil, inl, inr, ◌≡◌, ◌≢◌, ℕ, ◌+◌, ◌<◌, ◌≤◌, List, [], ◌∷◌, ◌++◌, length, min, Option, Some, None, Result, Ok, Err, refl, sym, ap, ◌∙◌, subst, arith}
use Rattle.std.specs.Prelude.{nat_lt, if◌then◌else◌}
use Rattle.std.specs.Option.{option_or, option_map}
use Rattle.edge_io.specs.Told.{Grows}
use Rattle.roster_text.specs.declared.commands.Timed.{Timed}
use Rattle.rtp_dump.specs.declared.faults.DumpKind.{DumpKind}
use Rattle.rtp_dump.specs.Spelling.{Fault, Capture}
use Rattle.rtp_dump.specs.Capture.{capture}
use Rattle.rtp_dump.specs.Writing.{output_head}
use Rattle.conference_spec.specs.declared.Entry.TheVariants.{End}
use Rattle.conference_spec.specs.Codec.{g726}
use Rattle.conference_spec.specs.Feed.{Feed, closes}
use Rattle.session_spec.specs.declared.Summary.{Summary}
use Rattle.session_spec.specs.Talkers.{Events}
use Rattle.session_spec.specs.Events.{feed_of}
use Rattle.session_spec.specs.Captured.{Meeting, items, met, met_after, head_fault, ticks_run, ticks_before, ticks_ended, events_over}
use Rattle.session_spec.specs.Answer.{written, after_head, answer_to, text_of, ticks_text, rest_text}
use Rattle.tick_core.specs.declared.book.Book.{Book}
use Rattle.tick_core.specs.Locking.{Parts, StandsWith}
use Rattle.desk_run.specs.declared.stops.Stop.{Stop}
use Rattle.desk_run.specs.declared.stops.Stop.TheVariants as stop
use Rattle.desk_run.specs.Whole.{Given, Traces, Finished, MeetsFault, TellsSame, Leaves, feed_to}
use Rattle.desk_run.specs.BookSide.{StandsFor}
use Rattle.desk_run.proofs.Closed.{finished_all}
use Rattle.desk_shared.specs.Ended.{Sides, HasEnded}
use Rattle.desk_shared.specs.Shared.{IsOver, WentAlong}
use Rattle.desk_shared.proofs.Sharing.{ran-well, stopped-so, closed-run, went-along, tells-along}
use Rattle.roster_desk.specs.Serving.{Begins}
use Rattle.roster_desk.specs.declared.serving.RosterDesk.{RosterDesk}
use Rattle.rooms_run.specs.declared.closing.Summed.{Summed}
use Rattle.rooms_run.specs.declared.closing.Outcome.{Outcome}
use Rattle.rooms_run.specs.declared.ends.RoomEnd.{RoomEnd}
use Rattle.rooms_run.specs.declared.ends.RoomEnd.TheVariants.{Done, Dump}
use Rattle.rooms_run.specs.Ends.{fault_met, end_at}
use Rattle.rooms_run.specs.Summing.{Sums}
use Rattle.rooms_run.specs.Outcomes.{Comes}

-- the ends of a session in memory
abbrev pub sides_in : Given → Option (List ℕ) → List ℕ → Sides
sides_in given left out = record {
  plan = given.plan;
  ticks = given.ticks;
  bytes = Some given.bytes;
  left = left;
  old = Some [];
  new = Some out;
  reads = (0, 0);
  writes = (0, 0);
}

-- it was run whole
no_fault : (given : Given) → head_fault given.bytes ≡ None → met given.ticks (capture given.bytes) ≡ None → fault_met given ≡ None
no_fault given head none = rw (head, none) refl

held_new : (new text : List ℕ) → Some new ≡ Some ([] ++ text) → new ≡ text
held_new new text e = cc

finished_comes : (given : Given) (left : Option (List ℕ)) (new : List ℕ) (C : Feed → Type 0) (s : Summary)
    → Finished given (record { left = left; old = Some []; new = Some new }) C s → (end_at given (fault_met given) ≡ Done s) × (new ≡ written g726 given.plan given.ticks given.bytes)
finished_comes given left new C s f =
    (rw (no_fault given f.head f.faultless) (ap (λ x. Done x) (sym f.summary_is)), held_new new _ f.answer)

left_at : (ticks packets : ℕ) (desk : RosterDesk) (before : List ℕ) (book : Book) (s : Summed) (summary : Summary) → s.end ≡ Ok summary
    → Sums ticks packets desk before book s → (h : Events) (f : Feed) → Begins desk h → StandsFor book f → TellsSame f (feed_of h)
    → Leaves ticks packets (Some before) (Some s.out.octets) h summary
left_at ticks packets desk before book s summary is sums = rw is at sums.left

pub summed_comes : (given : Given) (left : Option (List ℕ)) (out : List ℕ) (end : Result ℕ Stop) (packets : ℕ) (desk : RosterDesk) (seen : Feed)
    (book : Book) (parts : Parts) (ticks : ℕ) (s : Summed) (summary : Summary)
    → HasEnded (sides_in given left out) (λ h. Begins desk h) (λ f. IsOver seen f given.ticks) end → end ≡ Ok packets → given.ticks < 4320001
    → StandsWith book seen parts → ticks ≡ given.ticks → Sums ticks packets desk out book s → s.end ≡ Ok summary
    → Comes (Ok given) (record { end = Done summary; out = s.out })
summed_comes given left out end packets desk seen book parts ticks s summary ended well short st same sums is =
    let D : Events → Type 0 = λ h. Begins desk h in
    let over : Feed → Type 0 = λ f. IsOver seen f given.ticks in
    let told : Sums given.ticks packets desk out book s = subst (λ (n : ℕ). Sums n packets desk out book s) same sums in
    let f : Finished given (record { left = left; old = Some []; new = Some s.out.octets }) (λ f. WentAlong book f) summary =
    finished_all (Some given.bytes) given.plan given.ticks left (Some []) (Some out) (Some s.out.octets) D (λ f. over f × (closes f ≡ given.ticks)) (λ f. WentAlong book f)
    packets summary short
    (λ h d b. went-along book seen (feed_of h) given.ticks (parts, st) b.0 (sym b.1))
    (λ h d b.
    let w = went-along book seen (feed_of h) given.ticks (parts, st) b.0 (sym b.1) in
    left_at given.ticks packets desk out book s summary is told h (End ∷ w.own) d w.stands (tells-along w.own (feed_of h) w.same w.even))
    (closed-run (Some given.bytes) given.plan given.ticks _ D over packets
    (ran-well (sides_in given left out) D over end packets well ended)) in
    let c = finished_comes given left s.out.octets (λ f. WentAlong book f) summary f in
    record { end_is = sym c.0; text_is = c.1 }

-- ---- it met a fault of its capture ----

abbrev meeting : Fault → ℕ → Meeting
meeting fault tick = record { fault = fault; tick = tick }

ended_when : (ticks ended k : ℕ) (x fault : Fault) (b : Bool) → nat_lt ended ticks ≡ b
    → ◌≡◌ {A = Option Meeting} (if b then Some (meeting x ended) else None) (Some (meeting fault k)) → min ticks ended ≡ k
ended_when ticks ended k x fault true lt is =
    let one : meeting x ended ≡ meeting fault k = cc in
    let same : ended ≡ k = ap (λ (m : Meeting). m.tick) one in
    let below : ended < ticks = grind (arith, nat_tests) in
    omega arith
ended_when ticks ended k x fault false lt is = absurd (cc)

ended_there : (ticks k : ℕ) (is : List DumpItem) (met_is : Option Fault) (fault : Fault) → met_after ticks is met_is ≡ Some (meeting fault k)
    → ticks_before ticks is met_is ≡ k
ended_there ticks k is None fault e = absurd (cc)
ended_there ticks k is (Some x) fault e = ended_when ticks (ticks_ended is) k x fault (nat_lt (ticks_ended is) ticks) refl e

text_at : (plan : List Timed) (ticks n k : ℕ) (is : List DumpItem) (m : Option Meeting) (x : Meeting) → n ≡ k → m ≡ Some x
    → ticks_text g726 n (feed_of (events_over plan is n)) ++ rest_text g726 ticks m (feed_of (events_over plan is n)) ≡ ticks_text g726 k (feed_of (events_over plan is k))
text_at plan ticks n k is m x there met_is = rw (there, met_is) (append-nil (ticks_text g726 k (feed_of (events_over plan is k))))

met_text : (given : Given) (k : ℕ) (fault : Fault) → met given.ticks (capture given.bytes) ≡ Some (record { fault = fault; tick = k })
    → text_of g726 given.plan given.ticks (capture given.bytes) ≡ ticks_text g726 k (feed_to given k)
met_text given k fault is =
    let c = capture given.bytes in
    text_at given.plan given.ticks (ticks_run given.ticks c) k (items c) (met given.ticks c) (record { fault = fault; tick = k })
    (ended_there given.ticks k (items c) c.fault fault is) is

written_met : (given : Given) (k : ℕ) (fault : Fault) → head_fault given.bytes ≡ None → met given.ticks (capture given.bytes) ≡ Some (record { fault = fault; tick = k })
    → written g726 given.plan given.ticks given.bytes ≡ answer_to g726 k (feed_to given k)
unfolding written
written_met given k fault head is =
    ap (λ (f : Option Fault). after_head f (text_of g726 given.plan given.ticks (capture given.bytes))) head
    ∙ ap (λ (text : List ℕ). output_head ++ text) (met_text given k fault is)

written_none : (given : Given) (fault : Fault) → head_fault given.bytes ≡ Some fault → written g726 given.plan given.ticks given.bytes ≡ []
unfolding written
written_none given fault head = ap (λ (f : Option Fault). after_head f (text_of g726 given.plan given.ticks (capture given.bytes))) head

pub met_comes : (given : Given) (left : Option (List ℕ)) (new : List ℕ) (at : ℕ) (kind : DumpKind)
    → MeetsFault given (record { left = left; old = Some []; new = Some new }) at kind
    → (end_at given (fault_met given) ≡ Dump at kind) × (new ≡ written g726 given.plan given.ticks given.bytes)
met_comes given left new at kind meets =
    elim meets [
      | inl early ↦ (rw early.0 refl, let nothing : new ≡ [] = cc in nothing ∙ sym (written_none given _ early.0))
      | inr late ↦ (rw (late.0, late.2) refl, held_new new _ late.3 ∙ sym (written_met given late.1 _ late.0 late.2))
    ]

pub stopped_comes : (given : Given) (left : Option (List ℕ)) (out : List ℕ) (end : Result ℕ Stop) (desk : RosterDesk) (seen : Feed) (at : ℕ) (kind : DumpKind)
    → HasEnded (sides_in given left out) (λ h. Begins desk h) (λ f. IsOver seen f given.ticks) end → end ≡ Err (stop.Dump at kind)
    → (o : Outcome) → o.end ≡ Dump at kind → o.out.octets ≡ out → Comes (Ok given) o
stopped_comes given left out end desk seen at kind ended is o end_is text_is =
    let stopped = stopped-so (sides_in given left out) (λ h. Begins desk h) (λ f. IsOver seen f given.ticks) end (stop.Dump at kind) is ended in
    let m = met_comes given left out at kind stopped in
    record { end_is = end_is ∙ sym m.0; text_is = text_is ∙ m.1 }
