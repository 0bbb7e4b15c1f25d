-- How a run over ticks ends, where its source is told.
use Rattle.std.proofs.Common.{zero, suc, ◌≡◌, ◌<◌, ◌≤◌, ◌*◌, ◌+◌, ◌-◌, ◌++◌, ◌∷◌, ◌⊎◌, inl, inr, [], ℕ, List, length, take, map, refl, sym, ap, ◌∙◌, subst, arith, append_assoc, length-append, add-one, Option, Some, None}
use Rattle.std.specs.Prelude.{IfSome, nat_lt}
use Rattle.std.proofs.lemmas.Bool.{cond-true, cond-false, lt-ltb, le-ltb}
use Rattle.std.proofs.lemmas.List.{append-nil}
use Rattle.edge_io.specs.declared.faults.PutFault.{PutFault}
use Rattle.edge_io.specs.declared.faults.PutFault.TheVariants as put
use Rattle.edge_io.specs.Told.{Loses, Grows, GrowsByFront}
use Rattle.roster_text.specs.declared.commands.Timed.{Timed}
use Rattle.rtp_dump.specs.declared.item.DumpItem.{DumpItem}
use Rattle.rtp_dump.specs.declared.item.TheConstants.{MAX_RECORDS}
use Rattle.rtp_dump.specs.declared.faults.DumpKind.{DumpKind}
use Rattle.rtp_dump.specs.declared.faults.DumpFault.TheVariants as fault
use Rattle.rtp_dump.specs.declared.stage.Stage.TheVariants.{Open, Ended}
use Rattle.rtp_dump.specs.Spelling.{Placed, Fault, Capture, record_octets}
use Rattle.rtp_dump.specs.Reading.{Reading, ahead, from_here, octets_of, IsLate, IsPartOfRecord}
use Rattle.rtp_dump.proofs.Records.{records_from-end, length-record_octets}
use Rattle.rtp_dump.proofs.Follows.{part_has_none}
use Rattle.rtp_dump.proofs.Written.{front_of_first}
use Rattle.conference_spec.specs.Codec.{g726}
use Rattle.conference_spec.specs.Feed.{Feed, closes}
use Rattle.session_spec.specs.Talkers.{Events}
use Rattle.session_spec.specs.Events.{feed_of}
use Rattle.session_spec.specs.Captured.{from, heard_in, items, part, ticks_ended, ticks_before, ticks_run, met, met_after, Meeting, events_over}
use Rattle.session_spec.specs.Answer.{ticks_text, sent_to, rest_text, text_of}
use Rattle.desk_run.specs.declared.stops.Stop.{Stop}
use Rattle.desk_run.specs.declared.stops.Stop.TheVariants as stop
use Rattle.desk_run.specs.Taking.{octets_all, Before, IsPast, Broken}
use Rattle.desk_run.specs.Handing.{Amount}
use Rattle.desk_run.specs.Stops.{of_put}
use Rattle.desk_run.specs.Ends.{HasWritten, Between, EndsLate, TickStops, AllRun, Meets, Stalls, OnStop}
use Rattle.desk_run.proofs.Taken.{hands-more, ahead-moves}
use Rattle.desk_run.proofs.Follows.{until-is, ended-from, ended-less, from-cut, head-same}
use Rattle.desk_run.proofs.Standing.{Reached, Standing, standing_tick, rested, ahead-held, text-front}

-- ---- where a fault is met ----

met-none : (ticks : ℕ) (its : List DumpItem) (f : Option Fault) → (f ≡ None) ⊎ (ticks ≤ ticks_ended its) → met_after ticks its f ≡ None
met-none ticks its None h = refl
met-none ticks its (Some x) (inl e) = absurd (cc)
met-none ticks its (Some x) (inr le) =
    cond-false (nat_lt (ticks_ended its) ticks) (Some (record { fault = x; tick = ticks_ended its })) None (le-ltb (ticks_ended its) ticks le)

abbrev meets-in : Fault → ℕ → Option Meeting
meets-in x n = Some (record { fault = x; tick = n })

met-some : (ticks k : ℕ) (its : List DumpItem) (f : Option Fault) (x : Fault) → f ≡ Some x → ticks_ended its ≡ k → k < ticks
    → met_after ticks its f ≡ Some (record { fault = x; tick = k })
met-some ticks k its f x is e lt =
    ap (met_after ticks its) is
    ∙ cond-true (nat_lt (ticks_ended its) ticks) (Some (record { fault = x; tick = ticks_ended its })) None (lt-ltb (ticks_ended its) ticks (omega arith))
    ∙ ap (meets-in x) e

run-least : (ticks k : ℕ) (its : List DumpItem) (f : Option Fault) → k ≤ ticks → (f ≡ None) ⊎ (k ≤ ticks_ended its) → k ≤ ticks_before ticks its f
run-least ticks k its None le h = le
run-least ticks k its (Some x) le (inl e) = absurd (cc)
run-least ticks k its (Some x) le (inr ended) = omega arith

some-none : (f : Fault) → ◌≡◌ {A = Option Fault} (Some f) None → ⊥
some-none f e = absurd (cc)

-- ---- a told capture ----

module _ {S : Type 0} (rest : S → Option (List ℕ)) where
  -- what is ahead before tick k is nothing, and no fault, or lies at or past its begin
  past-told : (start r : Reading S) (plan : List Timed) (k : ℕ) (P : Events → Type 0) (bytes : List ℕ) → (st : Standing rest start r plan k P)
      → (h : Reached rest start r bytes plan k st.happened)
      → (k ≡ 0) ⊎ (((items (ahead r h.left) ≡ []) × ((ahead r h.left).fault ≡ None) × (r.held ≡ None) × (r.stage ≡ Ended))
      ⊎ ((item : DumpItem) × (more : List DumpItem) × (items (ahead r h.left) ≡ item ∷ more) × (20 * k ≤ item.offset) × (r.held ≡ Some item)))
  past-told start r plan zero P bytes st h = inl refl
  past-told start r plan (suc j) P bytes st h =
      let now : IsPast (20 * suc j) r.held (ahead r h.left) =
      subst (λ (x : Option (List ℕ)). IfSome x (λ octets. IsPast (20 * suc j) r.held (ahead r octets))) h.left_is st.past.1 in
      inr (by-held r.held refl st.past.0 now)
    where
      by-held : (o : Option DumpItem) → r.held ≡ o → IsLate (20 * suc j) r.stage o → IsPast (20 * suc j) o (ahead r h.left)
          → ((items (ahead r h.left) ≡ []) × ((ahead r h.left).fault ≡ None) × (r.held ≡ None) × (r.stage ≡ Ended))
          ⊎ ((item : DumpItem) × (more : List DumpItem) × (items (ahead r h.left) ≡ item ∷ more) × (20 * suc j ≤ item.offset) × (r.held ≡ Some item))
      by-held None e late past = inl (past.0, past.1, e, late)
      by-held (Some item) e late past =
          let (more, is, n) = ahead-held rest r item h.left e st.sound in
          inr (item, items more, ap items is, late, e)

  -- a tick that was begun lies before any fault
  least : (start r : Reading S) (plan : List Timed) (k : ℕ) (P : Events → Type 0) (bytes : List ℕ) → rest start.source ≡ Some bytes → (st : Standing rest start r plan k P)
      → Reached rest start r bytes plan k st.happened → ((ahead start bytes).fault ≡ None) ⊎ (k ≤ ticks_ended (items (ahead start bytes)))
  least start r plan k P bytes told st h =
      let (front, left, split, kept, is, joins) = ahead-moves rest start r st.given bytes told st.hands in
      let same : left ≡ h.left = (let e = sym kept ∙ h.left_is in cc) in
      let fault-is : (ahead start bytes).fault ≡ (ahead r h.left).fault = joins.fault_is ∙ ap (λ (o : List ℕ). (ahead r o).fault) same in
      elim (past-told start r plan k P bytes st h) [
        | inl none ↦ inr (omega arith)
        | inr (inl over) ↦ inl (fault-is ∙ over.1)
        | inr (inr (item, more, first, late, holds)) ↦
            let ends = ended-from (20 * k) (items (ahead start bytes)) item more (h.rest_is ∙ first) in
            inr (omega arith)
      ]

  -- a front of the text was written, up to and with tick k - 1
  front-told : (start r : Reading S) (plan : List Timed) (ticks k : ℕ) (P : Events → Type 0) (old new : Option (List ℕ)) → k ≤ ticks → (st : Standing rest start r plan k P)
      → GrowsByFront old new (ticks_text g726 k (feed_of st.happened)) → IfSome (rest start.source) (λ bytes. GrowsByFront old new (text_of g726 plan ticks (ahead start bytes)))
  front-told start r plan ticks k P old new le st grows = by-told (rest start.source) refl st.told
    where
      by-told : (o : Option (List ℕ)) → rest start.source ≡ o → IfSome o (λ bytes. Reached rest start r bytes plan k st.happened)
          → IfSome o (λ bytes. GrowsByFront old new (text_of g726 plan ticks (ahead start bytes)))
      by-told None e h = tt
      by-told (Some bytes) e h =
          let c = ahead start bytes in
          let run = ticks_run ticks c in
          let room : k ≤ run = run-least ticks k (items c) c.fault le (least start r plan k P bytes e st h) in
          let sum : run ≡ (run - k) + k = omega arith in
          let (more, same) = text-front plan (heard_in (items c)) k (run - k) in
          let G : List ℕ → Type 0 = λ text. GrowsByFront old new text in
          let all = feed_of (events_over plan (items c) run) in
          front_of_first old new (ticks_text g726 run all) (rest_text g726 ticks (met ticks c) all)
          (subst G (sym (ap (λ (m : ℕ). ticks_text g726 m (feed_of (events_over plan (items c) m))) sum ∙ same))
          (front_of_first old new (ticks_text g726 k (feed_of (events_over plan (items c) k))) more
          (subst (λ (h : Events). GrowsByFront old new (ticks_text g726 k (feed_of h))) h.happened_is grows)))

  -- what a reader holds back, alone
  held-alone : (r : Reading S) (P : Events → Type 0) (plan : List Timed) (k : ℕ) (start : Reading S) → Standing rest start r plan k P
      → (o : Option DumpItem) → r.held ≡ o → (items (from_here r (octets_of r.held)) ≡ (elim o [ None ↦ [] | Some item ↦ item ∷ [] ])) × ((from_here r (octets_of r.held)).fault ≡ None)
  held-alone r P plan k start st None e =
      let none = records_from-end (MAX_RECORDS - r.records) r.place in
      let here : from_here r (octets_of r.held) ≡ record { records = []; fault = None } = ap (λ (o : Option DumpItem). from_here r (octets_of o)) e ∙ none in
      (ap items here, ap (λ (c : Capture). c.fault) here)
  held-alone r P plan k start st (Some item) e =
      let (more, is, n) = ahead-held rest r item [] e st.sound in
      let none = n ∙ records_from-end (MAX_RECORDS - (r.records + 1)) (r.place + (length item.octets + 8)) in
      let here : from_here r (octets_of r.held) ≡ ahead r [] = ap (from_here r) (sym (append-nil (octets_of r.held))) in (
        ap items (here ∙ is) ∙ ap (λ (c : Capture). item ∷ items c) none,
        ap (λ (c : Capture). c.fault) (here ∙ is) ∙ ap (λ (c : Capture). c.fault) none,
      )

  -- what was read of a capture by tick k is the part that k ticks need
  part-read : (start r : Reading S) (plan : List Timed) (k : ℕ) (P : Events → Type 0) (bytes : List ℕ) → (st : Standing rest start r plan k P)
      → (h : Reached rest start r bytes plan k st.happened) → items (ahead start bytes) ≡ st.given ++ items (ahead r h.left)
      → (st.given ++ items (from_here r (octets_of r.held)) ≡ part k (items (ahead start bytes))) × ((from_here r (octets_of r.held)).fault ≡ None)
  part-read start r plan zero P bytes st h parts =
      let (given, bare) = st.past in
      let alone = held-alone r P plan zero start st None bare in
      (ap (λ (is : List DumpItem). is ++ items (from_here r (octets_of r.held))) given ∙ alone.0, alone.1)
  part-read start r plan (suc j) P bytes st h parts =
      let all = items (ahead start bytes) in
      let at : 20 * suc j ≡ 20 * (j + 1) = ap (λ (n : ℕ). 20 * n) (sym (add-one j)) in
      let rest-is : from (20 * (j + 1)) all ≡ items (ahead r h.left) = ap (λ (m : ℕ). from m all) (sym at) ∙ h.rest_is in
      let early = until-is (20 * (j + 1)) all st.given (items (ahead r h.left)) parts rest-is in
      elim (past-told start r plan (suc j) P bytes st h) [
        | inl none ↦ absurd (omega arith)
        | inr (inl (none, fault-none, bare, over)) ↦
            let alone = held-alone r P plan (suc j) start st None bare in (
              ap (λ (is : List DumpItem). st.given ++ is) alone.0
                  ∙ ap (λ (is : List DumpItem). st.given ++ take 1 is) (sym none)
                  ∙ ap (λ (is : List DumpItem). st.given ++ take 1 is) (sym rest-is)
                  ∙ ap (λ (is : List DumpItem). is ++ take 1 (from (20 * (j + 1)) all)) (sym early),
              alone.1,
            )
        | inr (inr (item, more, first, late, holds)) ↦
            let alone = held-alone r P plan (suc j) start st (Some item) holds in (
              ap (λ (is : List DumpItem). st.given ++ is) alone.0
                  ∙ ap (λ (is : List DumpItem). st.given ++ take 1 is) (sym first)
                  ∙ ap (λ (is : List DumpItem). st.given ++ take 1 is) (sym rest-is)
                  ∙ ap (λ (is : List DumpItem). is ++ take 1 (from (20 * (j + 1)) all)) (sym early),
              alone.1,
            )
      ]

  -- ---- the ends ----

  pub done_told : (start r : Reading S) (plan : List Timed) (ticks k : ℕ) (D : Events → Type 0) (C : Feed → ℕ → Type 0) (old new : Option (List ℕ)) (w : Amount)
      → k ≡ ticks → w.ticks ≡ k → Standing rest start r plan k (Between D C old new w k)
      → IfSome (rest start.source) (λ bytes. AllRun start bytes (rest r.source) plan ticks old new D (λ f. C f ticks) w.packets)
  done_told start r plan ticks k D C old new w last all st =
      let st' : Standing rest start r plan ticks (Between D C old new w ticks) =
      subst (λ (i : ℕ). Standing rest start r plan i (Between D C old new w i)) last st in
      by-told st' (all ∙ last) (rest start.source) refl st'.told
    where
      by-told : (st : Standing rest start r plan ticks (Between D C old new w ticks)) → w.ticks ≡ ticks → (o : Option (List ℕ)) → rest start.source ≡ o
          → IfSome o (λ bytes. Reached rest start r bytes plan ticks st.happened)
          → IfSome o (λ bytes. AllRun start bytes (rest r.source) plan ticks old new D (λ f. C f ticks) w.packets)
      by-told st run None e h = tt
      by-told st run (Some bytes) e h =
          let whole = items (ahead start bytes) in
          let at : Between D C old new w ticks (events_over plan whole ticks) = subst (Between D C old new w ticks) h.happened_is st.here in
          let (front, left, split, kept, is, joins) = ahead-moves rest start r st.given bytes e st.hands in
          let same : left ≡ h.left = (let e = sym kept ∙ h.left_is in cc) in
          let parts : whole ≡ st.given ++ items (ahead r h.left) = joins.items_are ∙ ap (λ (o : List ℕ). st.given ++ items (ahead r o)) same in
          let read = part-read start r plan ticks (Between D C old new w ticks) bytes st h parts in
          let follows = st.hands.follows (octets_of r.held) in
          let own : ahead start front ≡ from_here start (octets_all st.given ++ octets_of r.held) = ap (from_here start) is in
          record {
            faultless = met-none ticks whole (ahead start bytes).fault (least start r plan ticks (Between D C old new w ticks) bytes e st h);
            wrote = subst (λ (j : ℕ). Grows old new (ticks_text g726 j (feed_of (events_over plan whole ticks)))) run at.written.wrote;
            desk_stands = at.desk_stands;
            conference_stands = subst (C (feed_of (events_over plan whole ticks))) run at.conference_stands;
            counted = at.written.counted ∙ ap (λ (j : ℕ). length (sent_to g726 j (feed_of (events_over plan whole ticks)))) run;
            front = front;
            after = left;
            whole = split;
            left_is = kept;
            part_is = ap items own ∙ follows.items_are ∙ read.0;
            no_fault = ap (λ (c : Capture). c.fault) own ∙ follows.fault_is ∙ read.1;
          }

  -- the reader gave up at a fault
  bad_told : (start r s : Reading S) (plan : List Timed) (ticks k : ℕ) (P : Events → Type 0) (old new : Option (List ℕ)) (at : ℕ) (kind : DumpKind) → k < ticks
      → (st : Standing rest start r plan k P) → Broken rest r s (20 * (k + 1)) (fault.Bad at kind) → Grows old new (ticks_text g726 k (feed_of st.happened))
      → IfSome (rest start.source) (λ bytes. Meets start bytes (rest s.source) plan ticks old new at kind)
  bad_told start r s plan ticks k P old new at kind lt st broken wrote = by-told (rest start.source) refl st.told
    where
      by-told : (o : Option (List ℕ)) → rest start.source ≡ o → IfSome o (λ bytes. Reached rest start r bytes plan k st.happened)
          → IfSome o (λ bytes. Meets start bytes (rest s.source) plan ticks old new at kind)
      by-told None e h = tt
      by-told (Some bytes) e h =
          let all = items (ahead start bytes) in
          let its = broken.its in
          let (front, left, split, kept, is, joins) = ahead-moves rest r broken.mid its h.left h.left_is broken.hands in
          let end =
          subst (λ (x : Option (List ℕ)). IfSome x (λ octets. (items (ahead broken.mid octets) ≡ [])
          × ((ahead broken.mid octets).fault ≡ Some (record { at = at; kind = kind })))) kept broken.because in
          let (front', left', split', kept', is', joins') = ahead-moves rest start r st.given bytes e st.hands in
          let same : left' ≡ h.left = (let e' = sym kept' ∙ h.left_is in cc) in
          let fault-is : (ahead start bytes).fault ≡ Some (record { at = at; kind = kind }) =
          joins'.fault_is ∙ ap (λ (o : List ℕ). (ahead r o).fault) same ∙ joins.fault_is ∙ end.1 in
          let here : from (20 * k) all ≡ its = h.rest_is ∙ joins.items_are ∙ ap (λ (xs : List DumpItem). its ++ xs) end.0 ∙ append-nil its in
          let most : ticks_ended all ≤ k = ended-less k all (subst (Before (20 * (k + 1))) (sym here) broken.early) in
          let least' : k ≤ ticks_ended all = elim (least start r plan k P bytes e st h) [ inl none ↦ absurd (some-none (record { at = at; kind = kind }) (sym fault-is ∙ none)) | inr le ↦ le ] in (
            k,
            met-some ticks k all (ahead start bytes).fault (record { at = at; kind = kind }) fault-is (omega arith) lt,
            subst (λ (h : Events). Grows old new (ticks_text g726 k (feed_of h))) h.happened_is wrote,
          )

  no-octets : (item : DumpItem) (more : List ℕ) → record_octets item ++ more ≡ [] → ⊥
  no-octets item more e = absurd (omega (arith, ap length e, length-append (record_octets item) more, length-record_octets item))

  -- in a tick in which a read fails something was heard, or the tick is the first
  still-open : (start r s : Reading S) (plan : List Timed) (k : ℕ) (P : Events → Type 0) (bytes : List ℕ)
      → (st : Standing rest start r plan k P) → Reached rest start r bytes plan k st.happened → (broken : Broken rest r s (20 * (k + 1)) fault.Read)
      → k ≤ ticks_ended (st.given ++ broken.its)
      ⊎ (from (20 * k) (st.given ++ broken.its) ≡ broken.its → k ≤ ticks_ended (st.given ++ broken.its))
  still-open start r s plan k P bytes st h broken =
      let its = broken.its in
      let (front, left, split, kept, is, joins) = ahead-moves rest r broken.mid its h.left h.left_is broken.hands in
      elim (past-told start r plan k P bytes st h) [
        | inl none ↦ inl (omega arith)
        | inr (inl (none, fault-none, bare, over)) ↦
            let nothing : its ≡ [] = empty-front its (items (ahead broken.mid left)) (sym joins.items_are ∙ none) in
            let stage : Ended ≡ Open = sym over ∙ ap (λ (x : Reading S). x.stage) (sym (broken.same nothing)) ∙ broken.because.1 in
            absurd (cc)
        | inr (inr (item, more, first, late, holds)) ↦ inr (λ here.
            by-its its (refl) (first-heard its (items (ahead broken.mid left)) item more (sym joins.items_are ∙ first)) here late holds)
      ]
    where
      empty-front : (xs ys : List DumpItem) → xs ++ ys ≡ [] → xs ≡ []
      empty-front [] ys e = refl
      empty-front (x ∷ xs) ys e = absurd (cc)

      first-heard : (xs ys : List DumpItem) (item : DumpItem) (more : List DumpItem) → xs ++ ys ≡ item ∷ more → (xs ≡ []) ⊎ ((others : List DumpItem) × (xs ≡ item ∷ others))
      first-heard [] ys item more e = inl refl
      first-heard (x ∷ xs) ys item more e = inr (xs, ap (λ (i : DumpItem). i ∷ xs) (head-same x item (xs ++ ys) more e))

      by-its : (its : List DumpItem) → broken.its ≡ its → {item : DumpItem} → (its ≡ []) ⊎ ((others : List DumpItem) × (its ≡ item ∷ others))
          → from (20 * k) (st.given ++ its) ≡ its → 20 * k ≤ item.offset → r.held ≡ Some item → k ≤ ticks_ended (st.given ++ its)
      by-its its e {item} (inl none) here late holds =
          let mid-bare : broken.mid ≡ r = broken.same (e ∙ none) in
          let bare : Some item ≡ None = sym holds ∙ ap (λ (x : Reading S). x.held) (sym mid-bare) ∙ broken.because.0 in
          absurd (cc)
      by-its its e {item} (inr (others, is)) here late holds =
          let ends = ended-from (20 * k) (st.given ++ its) item others (here ∙ is) in
          omega arith

  stall_told : (start r s : Reading S) (plan : List Timed) (ticks k : ℕ) (P : Events → Type 0) (old new : Option (List ℕ)) → k < ticks
      → (st : Standing rest start r plan k P) → Broken rest r s (20 * (k + 1)) fault.Read → Grows old new (ticks_text g726 k (feed_of st.happened))
      → IfSome (rest start.source) (λ bytes. Stalls start bytes (rest s.source) plan ticks old new)
  stall_told start r s plan ticks k P old new lt st broken wrote = by-told (rest start.source) refl st.told
    where
      by-told : (o : Option (List ℕ)) → rest start.source ≡ o → IfSome o (λ bytes. Reached rest start r bytes plan k st.happened)
          → IfSome o (λ bytes. Stalls start bytes (rest s.source) plan ticks old new)
      by-told None e h = tt
      by-told (Some bytes) e h =
          let all = items (ahead start bytes) in
          let its = broken.its in
          let out = st.given ++ its in
          let hands = hands-more rest start r broken.mid st.given its st.hands broken.hands in
          let (front, left, split, kept, is, joins) = ahead-moves rest start broken.mid out bytes e hands in
          let (part, after, torn, parts, gone) = subst (λ (x : Option (List ℕ)). Loses x (rest s.source) IsPartOfRecord) kept broken.because.2 in
          let (front', left', split', kept', is', joins') = ahead-moves rest r broken.mid its h.left h.left_is broken.hands in
          let back = items (ahead broken.mid left') in
          let here : from (20 * k) all ≡ its ++ back = h.rest_is ∙ joins'.items_are in
          let same : left ≡ left' = (let e' = sym kept ∙ kept' in cc) in
          let whole : all ≡ st.given ++ (its ++ back) =
          joins.items_are ∙ ap (λ (o : List ℕ). out ++ items (ahead broken.mid o)) same ∙ append_assoc st.given its back in
          let cut : from (20 * k) out ≡ its = from-cut (20 * k) st.given its back (ap (from (20 * k)) (sym whole) ∙ here) in
          let most : ticks_ended out ≤ k = ended-less k out (subst (Before (20 * (k + 1))) (sym cut) broken.early) in
          let least' : k ≤ ticks_ended out = elim (still-open start r s plan k P bytes st h broken) [ inl le ↦ le | inr f ↦ f cut ] in
          let own : ahead start (front ++ part) ≡ from_here start (octets_all out ++ (octets_of broken.mid.held ++ part)) =
          ap (from_here start)
          (sym (append_assoc (octets_of start.held) front part) ∙ ap (λ (o : List ℕ). o ++ part) is ∙ append_assoc (octets_all out) (octets_of broken.mid.held) part) in
          let none : items (from_here broken.mid (octets_of broken.mid.held ++ part)) ≡ [] =
          ap (λ (o : Option DumpItem). items (from_here broken.mid (octets_of o ++ part))) broken.because.0
          ∙ ap (map (λ (p : Placed). p.item)) (part_has_none (MAX_RECORDS - broken.mid.records) broken.mid.place part torn) in
          let taken : items (ahead start (front ++ part)) ≡ out =
          ap items own ∙ (hands.follows (octets_of broken.mid.held ++ part)).items_are ∙ ap (λ (xs : List DumpItem). out ++ xs) none ∙ append-nil out in
          let ended : ticks_ended (items (ahead start (front ++ part))) ≡ k = (let e' = ap ticks_ended taken in omega arith) in
          let now : Grows old new (ticks_text g726 k (feed_of (events_over plan all k))) =
          subst (λ (h : Events). Grows old new (ticks_text g726 k (feed_of h))) h.happened_is wrote in
          record {
            front = front ++ part;
            after = after;
            whole = split ∙ ap (λ (o : List ℕ). front ++ o) parts ∙ sym (append_assoc front part after);
            left_is = gone;
            below = omega arith;
            wrote = subst (λ (j : ℕ). Grows old new (ticks_text g726 j (feed_of (events_over plan all j)))) (sym ended) now;
          }

  late-told : (start r s : Reading S) (plan now : List Timed) (ticks k : ℕ) (P : Option (List ℕ) → Events → Type 0) (old new : Option (List ℕ)) → k < ticks → now ≡ plan
      → Standing rest start r plan k (P old) → EndsLate rest r s now k P new → IfSome (rest start.source) (λ bytes. GrowsByFront old new (text_of g726 plan ticks (ahead start bytes)))
  late-told start r s plan now ticks k P old new lt same st late =
      let st' = standing_tick rest start r s plan now k (suc k) P (λ o h. GrowsByFront o new (ticks_text g726 (k + 1) (feed_of h))) old refl same st late in
      front-told start s plan ticks (suc k) (λ h. GrowsByFront old new (ticks_text g726 (k + 1) (feed_of h))) old new (omega arith) st'
      (subst (λ (j : ℕ). GrowsByFront old new (ticks_text g726 j (feed_of st'.happened))) (add-one k) st'.here)

  -- by what ended the tick
  pub stop_told : (start r s : Reading S) (plan now : List Timed) (ticks k : ℕ) (P : Option (List ℕ) → Events → Type 0) (old new : Option (List ℕ)) (why : Stop) → k < ticks → now ≡ plan
      → Standing rest start r plan k (P old) → TickStops rest r s now k P new why
      → IfSome (rest start.source) (λ bytes. OnStop start bytes (rest s.source) plan ticks old new why)
  stop_told start r s plan now ticks k P old new (stop.Dump at kind) lt same st (broken, text) =
      bad_told start r s plan ticks k (P old) old new at kind lt st broken (text old st.happened st.here)
  stop_told start r s plan now ticks k P old new stop.Read lt same st (broken, text) =
      stall_told start r s plan ticks k (P old) old new lt st broken (text old st.happened st.here)
  stop_told start r s plan now ticks k P old new stop.Write lt same st (inl front) =
      front-told start r plan ticks k (P old) old new (omega arith) st (front old st.happened st.here)
  stop_told start r s plan now ticks k P old new stop.Write lt same st (inr late) = late-told start r s plan now ticks k P old new lt same st late
  stop_told start r s plan now ticks k P old new stop.Memory lt same st (inl front) =
      front-told start r plan ticks k (P old) old new (omega arith) st (front old st.happened st.here)
  stop_told start r s plan now ticks k P old new stop.Memory lt same st (inr late) = late-told start r s plan now ticks k P old new lt same st late

  -- the last ticks were handed out, but not all of their packets were written
  pub rest_told : (start r : Reading S) (plan : List Timed) (ticks k : ℕ) (D : Events → Type 0) (C : Feed → ℕ → Type 0) (old mid new : Option (List ℕ)) (w : Amount) (why : PutFault) → k ≡ ticks
      → Standing rest start r plan k (Between D C old mid w k)
      → ((x : Option (List ℕ)) (f : Feed) → C f w.ticks → closes f ≡ ticks → HasWritten x mid w f → GrowsByFront x new (ticks_text g726 ticks f))
      → IfSome (rest start.source) (λ bytes. OnStop start bytes (rest r.source) plan ticks old new (of_put why))
  rest_told start r plan ticks k D C old mid new w why last st front =
      let at = st.here in
      let grew : GrowsByFront old new (ticks_text g726 k (feed_of st.happened)) =
      subst (λ (j : ℕ). GrowsByFront old new (ticks_text g726 j (feed_of st.happened))) (sym last)
      (front old (feed_of st.happened) at.conference_stands (at.closed ∙ last) at.written) in
      by-put why (front-told start r plan ticks k (Between D C old mid w k) old new (omega arith) st grew)
    where
      by-put : (why : PutFault) → IfSome (rest start.source) (λ bytes. GrowsByFront old new (text_of g726 plan ticks (ahead start bytes)))
          → IfSome (rest start.source) (λ bytes. OnStop start bytes (rest r.source) plan ticks old new (of_put why))
      by-put put.Failed h = h
      by-put put.Memory h = h

  -- what holds of what stands before a tick follows through
  pub standing_with : (start r : Reading S) (plan : List Timed) (k : ℕ) (P Q : Events → Type 0) → ((h : Events) → P h → Q h) → Standing rest start r plan k P → Standing rest start r plan k Q
  standing_with start r plan k P Q f st = record {
    given = st.given;
    hands = st.hands;
    sound = st.sound;
    past = st.past;
    happened = st.happened;
    told = st.told;
    here = f st.happened st.here;
  }

-- the ticks that are left may be asked for
pub may-rest : (C : Feed → ℕ → Type 0) (D : Events → Type 0) (old new : Option (List ℕ)) (w : Amount) (k ticks : ℕ) (h : Events) → k ≡ ticks → Between D C old new w k h
    → (f : Feed) × C f w.ticks × (closes f ≡ ticks)
may-rest C D old new w k ticks h last at = (feed_of h, at.conference_stands, at.closed ∙ last)

-- the same of what stands at the exit of a call, once the ticks that were left are written
pub done_all : {S X Y : Type 0} (rest : S → Option (List ℕ)) (start r : Reading S) (left : Option (List ℕ)) (B : X → Events → Type 0) (d de : X)
    (R : Y → Feed → ℕ → Type 0) (y0 y1 ye : Y) (plan : List Timed) (ticks k : ℕ) (old mid new ne : Option (List ℕ)) (w v : Amount) (packets : ℕ) → left ≡ rest r.source → de ≡ d → ye ≡ y1 → ne ≡ new → packets ≡ v.packets → k ≡ ticks → v.ticks ≡ ticks
    → ((f : Feed) → R y0 f w.ticks → closes f ≡ ticks → R y1 f ticks)
    → ((x : Option (List ℕ)) (f : Feed) → R y0 f w.ticks → closes f ≡ ticks → HasWritten x mid w f → HasWritten x new v f)
    → Standing rest start r plan k (Between (λ h. B d h) (λ f n. R y0 f n) old mid w k)
    → IfSome (rest start.source) (λ bytes. AllRun start bytes left plan ticks old ne (λ h. B de h) (λ f. R ye f ticks) packets)
done_all {S = S} {X = X} {Y = Y} rest start r left B d de R y0 y1 ye plan ticks k old mid new ne w v packets el ed ey en ep last all stands whole st =
    let st' : Standing rest start r plan ticks (Between (λ h. B d h) (λ f n. R y0 f n) old mid w ticks) =
    subst (λ (i : ℕ). Standing rest start r plan i (Between (λ h. B d h) (λ f n. R y0 f n) old mid w i)) last st in
    let ran : Standing rest start r plan ticks (Between (λ h. B d h) (λ f n. R y1 f n) old new v ticks) =
    standing_with rest start r plan ticks (Between (λ h. B d h) (λ f n. R y0 f n) old mid w ticks) (Between (λ h. B d h) (λ f n. R y1 f n) old new v ticks)
    (λ h at. rested (λ h. B d h) (λ f n. R y0 f n) (λ f n. R y1 f n) old mid new w v ticks h all stands whole at) st' in
    let done : IfSome (rest start.source) (λ bytes. AllRun start bytes (rest r.source) plan ticks old new (λ h. B d h) (λ f. R y1 f ticks) v.packets) =
    done_told rest start r plan ticks ticks (λ h. B d h) (λ f n. R y1 f n) old new v refl all ran in
    subst (λ (u : ℕ). IfSome (rest start.source) (λ bytes. AllRun start bytes left plan ticks old ne (λ h. B de h) (λ f. R ye f ticks) u)) (sym ep)
    (subst (λ (u : Option (List ℕ)). IfSome (rest start.source) (λ bytes. AllRun start bytes left plan ticks old u (λ h. B de h) (λ f. R ye f ticks) v.packets)) (sym en)
    (subst (λ (u : Y). IfSome (rest start.source) (λ bytes. AllRun start bytes left plan ticks old new (λ h. B de h) (λ f. R u f ticks) v.packets)) (sym ey)
    (subst (λ (u : X). IfSome (rest start.source) (λ bytes. AllRun start bytes left plan ticks old new (λ h. B u h) (λ f. R y1 f ticks) v.packets)) (sym ed)
    (subst (λ (u : Option (List ℕ)). IfSome (rest start.source) (λ bytes. AllRun start bytes u plan ticks old new (λ h. B d h) (λ f. R y1 f ticks) v.packets)) (sym el) done))))
