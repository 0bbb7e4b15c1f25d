-- From the octets of a capture to the ends of a run.
use Rattle.std.proofs.Common.{◌≡◌, ◌<◌, ◌≤◌, ◌+◌, ◌-◌, ◌^◌, min, ◌++◌, inl, inr, ℕ, List, length, refl, sym, ap, ◌∙◌, subst, arith, append_assoc, Option, Some, None, Result, Ok, Err}
use Rattle.std.specs.Prelude.{IfSome, IfOk, IfErr, IsErr, IsErrOf, nat_lt}
use Rattle.std.proofs.lemmas.Bool.{cases_Bool, cond-true, ltb-false, le-ltb, false≢true}
use Rattle.std.proofs.lemmas.List.{length-append}
use Rattle.edge_io.specs.declared.faults.PutFault.{PutFault}
use Rattle.edge_io.specs.declared.faults.PutFault.TheVariants as put
use Rattle.edge_io.specs.Told.{Loses, Grows, GrowsByFront}
use Rattle.roster_text.specs.declared.commands.Timed.{Timed}
use Rattle.rtp_dump.specs.declared.item.DumpItem.{DumpItem}
use Rattle.rtp_dump.specs.declared.faults.HeadEnd.{HeadEnd}
use Rattle.rtp_dump.specs.declared.faults.HeadEnd.TheVariants as head
use Rattle.rtp_dump.specs.Spelling.{Fault, Capture}
use Rattle.rtp_dump.specs.Capture.{capture, opening}
use Rattle.rtp_dump.specs.Reading.{Reading, ahead, AnswersHead, IsOpening, IsPartOfOpening}
use Rattle.rtp_dump.specs.Writing.{output_head}
use Rattle.rtp_dump.proofs.Follows.{part_is_torn}
use Rattle.rtp_dump.proofs.LineLaws.{line_at-line}
use Rattle.rtp_dump.proofs.Written.{front_then_front, front_of_first}
use Rattle.conference_spec.specs.declared.Packet.{Packet}
use Rattle.conference_spec.specs.Codec.{g726}
use Rattle.conference_spec.specs.Feed.{Feed, closes, collects}
use Rattle.conference_spec.specs.Machine.{Core}
use Rattle.conference_spec.specs.Packets.{rest}
use Rattle.conference_spec.specs.Tasks.{due}
use Rattle.tick_core.specs.declared.book.Book.{Book}
use Rattle.tick_core.specs.Standing.{Stands}
use Rattle.session_spec.specs.declared.Summary.{Summary}
use Rattle.session_spec.specs.Talkers.{Events}
use Rattle.session_spec.specs.Events.{feed_of, refused}
use Rattle.session_spec.specs.Captured.{Meeting, items, part, ticks_ended, ticks_before, met, met_after, fault_in, head_fault, events_over}
use Rattle.session_spec.specs.Answer.{answer_to, after_head, tick_text, ticks_text, rest_text, sent_to, text_of, written}
use Rattle.session_spec.proofs.Following.{all-collected}
use Rattle.desk_run.specs.declared.stops.Stop.{Stop}
use Rattle.desk_run.specs.declared.stops.Stop.TheVariants as stop
use Rattle.desk_run.specs.declared.run.RunEnd.{RunEnd}
use Rattle.desk_run.specs.Stops.{of_head, of_put}
use Rattle.desk_run.specs.Ends.{AllRun, OnStop}
use Rattle.desk_run.specs.BookSide.{StandsFor, HandedAll, IsEven}
use Rattle.desk_run.specs.Whole.{Given, Traces, events_to, feed_to, HasRun, Leaves, TellsSame, Finished, WritesFront, HasStopped, end_of, RunEnds}
use Rattle.desk_run.proofs.Texts.{grows_none, grows_append}
use Rattle.desk_run.proofs.Bounds.{refused-few}
use Rattle.desk_run.proofs.BookTwins.{issued-due}
use Rattle.desk_run.proofs.Remaining.{as-many}

-- ---- the line and the file head ----

no-fault : (front : List ℕ) → IsOpening front → (more : List ℕ) → head_fault (front ++ more) ≡ None
no-fault front (line, head, is_line, long, spelled) more =
    let regrouped : front ++ more ≡ line ++ (head ++ more) = ap (λ (xs : List ℕ). xs ++ more) spelled ∙ append_assoc line head more in
    let enough : length line + 16 ≤ length (line ++ (head ++ more)) = omega (arith, length-append line (head ++ more), length-append head more) in
    ap head_fault regrouped
    ∙ rw (line_at-line line (head ++ more) is_line, le-ltb (length (line ++ (head ++ more))) (length line + 16) enough) refl

-- as a session's records say it
abbrev given : List Timed → ℕ → List ℕ → Given
given plan ticks bytes = record { plan = plan; ticks = ticks; bytes = bytes }

abbrev traces : Option (List ℕ) → Option (List ℕ) → Option (List ℕ) → Traces
traces left old new = record { left = left; old = old; new = new }

-- all that a session can write, where the line and the file head have no fault
written-is : (plan : List Timed) (ticks : ℕ) (bytes : List ℕ) → head_fault bytes ≡ None → written g726 plan ticks bytes ≡ output_head ++ text_of g726 plan ticks (capture bytes)
unfolding written
written-is plan ticks bytes e = ap (λ (f : Option Fault). after_head f (text_of g726 plan ticks (capture bytes))) e

-- a read failed in the line or the file head
nothing-written : (old : Option (List ℕ)) (r : Result ℕ Fault) (text : List ℕ) → IsErr r → Grows old old (after_head (fault_in r) text)
nothing-written old (Ok len) text e = absurd (false≢true e)
nothing-written old (Err f) text e = grows_none old

has-fault : (r : Result ℕ Fault) → IsErr r → fault_in r ≡ None → ⊥
has-fault (Ok len) e none = false≢true e
has-fault (Err f) e none = cc

module _ {S : Type 0} (rest : S → Option (List ℕ)) (r0 r : Reading S)
    (taken : Loses (rest r0.source) (rest r.source) (λ front. IsOpening front × ((more : List ℕ) → capture (front ++ more) ≡ ahead r more))) where
  -- what stands behind the line and the file head of a capture
  record Opened (bytes : List ℕ) : Type 0 where
    front : List ℕ
    after : List ℕ
    whole : bytes ≡ front ++ after
    left_is : rest r.source ≡ Some after
    follows : (more : List ℕ) → capture (front ++ more) ≡ ahead r more
    none : (more : List ℕ) → head_fault (front ++ more) ≡ None

  captured : (bytes : List ℕ) (p : Opened bytes) → ahead r p.after ≡ capture bytes
  captured bytes p = sym (ap capture p.whole ∙ p.follows p.after)

  headed : (bytes : List ℕ) → Opened bytes → head_fault bytes ≡ None
  headed bytes p = ap head_fault p.whole ∙ p.none p.after

  -- what holds of each capture whose line and file head were read
  by-opened : (P : List ℕ → Type 0) → ((bytes : List ℕ) → Opened bytes → P bytes) → IfSome (rest r0.source) P
  by-opened P h = by-told (rest r0.source) taken
    where
      by-told : (o : Option (List ℕ)) → Loses o (rest r.source) (λ front. IsOpening front × ((more : List ℕ) → capture (front ++ more) ≡ ahead r more)) → IfSome o P
      by-told None lost = tt
      by-told (Some bytes) (front, after, (is, follows), split, left) =
          h bytes (record { front = front; after = after; whole = split; left_is = left; follows = follows; none = no-fault front is })

  module _ (plan : List Timed) (ticks : ℕ) (left old mid new : Option (List ℕ)) (wrote : Grows old mid output_head) where
    ran : (bytes : List ℕ) (D : Events → Type 0) (C : Feed → Type 0) (packets : ℕ) → Opened bytes
        → IfSome (rest r.source) (λ octets. AllRun r octets left plan ticks mid new D C packets) → HasRun (given plan ticks bytes) (traces left old new) D C packets
    ran bytes D C packets p all =
        let q : AllRun r p.after left plan ticks mid new D C packets =
        subst (λ (v : Option (List ℕ)). IfSome v (λ octets. AllRun r octets left plan ticks mid new D C packets)) p.left_is all in
        let e : ahead r p.after ≡ capture bytes = captured bytes p in
        let h : Capture → Events = λ c. events_over plan (items c) ticks in
        let here = h (ahead r p.after) in
        let fronts : capture (p.front ++ q.front) ≡ ahead r q.front = p.follows q.front in
        record {
          head = headed bytes p;
          faultless = subst (λ (c : Capture). met ticks c ≡ None) e q.faultless;
          answer =
              subst (λ (c : Capture). Grows old new (answer_to g726 ticks (feed_of (h c)))) e
              (grows_append old mid new output_head (ticks_text g726 ticks (feed_of here)) wrote q.wrote);
          desk_stands = subst (λ (c : Capture). D (h c)) e q.desk_stands;
          conference_stands = subst (λ (c : Capture). C (feed_of (h c))) e q.conference_stands;
          counted = q.counted ∙ ap (λ (c : Capture). length (sent_to g726 ticks (feed_of (h c)))) e;
          taken = record {
            front = p.front ++ q.front;
            after = q.after;
            whole = p.whole ∙ ap (λ (xs : List ℕ). p.front ++ xs) q.whole ∙ sym (append_assoc p.front q.front q.after);
            left_is = q.left_is;
            part_is = ap items fronts ∙ q.part_is ∙ ap (λ (c : Capture). part ticks (items c)) e;
            no_fault = ap (λ (c : Capture). c.fault) fronts ∙ q.no_fault;
          };
        }

    front-written : (bytes : List ℕ) (p : Opened bytes) → GrowsByFront mid new (text_of g726 plan ticks (ahead r p.after)) → WritesFront (given plan ticks bytes) (traces left old new)
    front-written bytes p grew =
        subst (λ (text : List ℕ). GrowsByFront old new text) (sym (written-is plan ticks bytes (headed bytes p)))
        (subst (λ (c : Capture). GrowsByFront old new (output_head ++ text_of g726 plan ticks c)) (captured bytes p)
        (front_then_front old mid new output_head (text_of g726 plan ticks (ahead r p.after)) wrote grew))

    stop_ends : (bytes : List ℕ) (why : Stop) (p : Opened bytes) → OnStop r p.after left plan ticks mid new why → HasStopped (given plan ticks bytes) (traces left old new) why
    stop_ends bytes (stop.Dump at kind) p (k, meets, grew) =
        let e : ahead r p.after ≡ capture bytes = captured bytes p in
        inr (
          headed bytes p,
          k,
          subst (λ (c : Capture). met ticks c ≡ Some (record { fault = record { at = at; kind = kind }; tick = k })) e meets,
          subst (λ (c : Capture). Grows old new (answer_to g726 k (feed_of (events_over plan (items c) k)))) e
              (grows_append old mid new output_head (ticks_text g726 k (feed_of (events_over plan (items (ahead r p.after)) k))) wrote grew),
        )
    stop_ends bytes stop.Read p q =
        let e : ahead r p.after ≡ capture bytes = captured bytes p in
        let fronts : capture (p.front ++ q.front) ≡ ahead r q.front = p.follows q.front in
        let ended : ticks_ended (items (ahead r q.front)) ≡ ticks_ended (items (capture (p.front ++ q.front))) = ap (λ (c : Capture). ticks_ended (items c)) (sym fronts) in
        let text : ℕ → Capture → List ℕ = λ k c. ticks_text g726 k (feed_of (events_over plan (items c) k)) in
        let k = ticks_ended (items (ahead r q.front)) in
        let whole-text : Grows old new (output_head ++ text k (ahead r p.after)) = grows_append old mid new output_head (text k (ahead r p.after)) wrote q.wrote in
        record {
          front = p.front ++ q.front;
          after = q.after;
          whole = p.whole ∙ ap (λ (xs : List ℕ). p.front ++ xs) q.whole ∙ sym (append_assoc p.front q.front q.after);
          left_is = q.left_is;
          below = λ none. subst (λ (j : ℕ). j < ticks) ended q.below;
          answer =
              subst (λ (f : Option Fault). Grows old new (after_head f (text (ticks_ended (items (capture (p.front ++ q.front)))) (capture bytes)))) (sym (p.none q.front))
              (subst (λ (j : ℕ). Grows old new (output_head ++ text j (capture bytes))) ended
              (subst (λ (c : Capture). Grows old new (output_head ++ text k c)) e whole-text));
        }
    stop_ends bytes stop.Write p grew = front-written bytes p grew
    stop_ends bytes stop.Memory p grew = front-written bytes p grew

    pub ran_all : (D : Events → Type 0) (C : Feed → Type 0) (end : Result ℕ Stop)
        → IfOk end (λ packets. IfSome (rest r.source) (λ octets. AllRun r octets left plan ticks mid new D C packets))
        → IfOk end (λ packets. IfSome (rest r0.source) (λ bytes. HasRun (record { plan = plan; ticks = ticks; bytes = bytes }) (record { left = left; old = old; new = new }) D C packets))
    ran_all D C (Err why) all = tt
    ran_all D C (Ok packets) all = by-opened (λ bytes. HasRun (given plan ticks bytes) (traces left old new) D C packets) (λ bytes p. ran bytes D C packets p all)

    pub stopped_all : (end : Result ℕ Stop) → IfErr end (λ why. IfSome (rest r.source) (λ octets. OnStop r octets left plan ticks mid new why))
        → IfErr end (λ why. IfSome (rest r0.source) (λ bytes. HasStopped (record { plan = plan; ticks = ticks; bytes = bytes }) (record { left = left; old = old; new = new }) why))
    stopped_all (Ok packets) all = tt
    stopped_all (Err why) all = by-opened (λ bytes. HasStopped (given plan ticks bytes) (traces left old new) why) (λ bytes p.
        stop_ends bytes why p (subst (λ (v : Option (List ℕ)). IfSome v (λ octets. OnStop r octets left plan ticks mid new why)) p.left_is all))

  -- the sink failed at the output's head
  pub unheaded : (plan : List Timed) (ticks : ℕ) (left old new : Option (List ℕ)) (why : PutFault) (end : Stop) → end ≡ of_put why → GrowsByFront old new output_head
      → IfSome (rest r0.source) (λ bytes. HasStopped (record { plan = plan; ticks = ticks; bytes = bytes }) (record { left = left; old = old; new = new }) end)
  unheaded plan ticks left old new why end is grew =
      subst (λ (q : Stop). IfSome (rest r0.source) (λ bytes. HasStopped (given plan ticks bytes) (traces left old new) q)) (sym is)
      (by-opened (λ bytes. HasStopped (given plan ticks bytes) (traces left old new) (of_put why)) (λ bytes p. by-fault why bytes
      (subst (λ (text : List ℕ). GrowsByFront old new text) (sym (written-is plan ticks bytes (headed bytes p)))
      (front_of_first old new output_head (text_of g726 plan ticks (capture bytes)) grew))))
    where
      by-fault : (why : PutFault) (bytes : List ℕ) → WritesFront (given plan ticks bytes) (traces left old new) → HasStopped (given plan ticks bytes) (traces left old new) (of_put why)
      by-fault put.Failed bytes h = h
      by-fault put.Memory bytes h = h

-- a fault in the line or the file head, or a read that failed there
pub unopened : (told left held : Option (List ℕ)) (plan : List Timed) (ticks : ℕ) (end : HeadEnd) (why : Stop) → why ≡ of_head end
    → IfSome told (λ octets. AnswersHead {X = Unit {0}} (Err end) (opening octets))
    → (IsErrOf {T = Unit {0}} (Err end) head.Read → Loses told left IsPartOfOpening)
    → IfSome told (λ bytes. HasStopped (record { plan = plan; ticks = ticks; bytes = bytes }) (record { left = left; old = held; new = held }) why)
unopened told left held plan ticks end why is answer read =
    subst (λ (q : Stop). IfSome told (λ bytes. HasStopped (given plan ticks bytes) (traces left held held) q)) (sym is) (by-end end told answer read)
  where
    by-end : (end : HeadEnd) (o : Option (List ℕ)) → IfSome o (λ octets. AnswersHead {X = Unit {0}} (Err end) (opening octets))
        → (IsErrOf {T = Unit {0}} (Err end) head.Read → Loses o left IsPartOfOpening) → IfSome o (λ bytes. HasStopped (given plan ticks bytes) (traces left held held) (of_head end))
    by-end end None answer read = tt
    by-end (head.Bad at kind) (Some bytes) answer read = inl (ap fault_in answer, refl)
    by-end head.Read (Some bytes) answer read =
        let (front, after, part, split, gone) = read refl in
        let torn = part_is_torn front part in
        record {
          front = front;
          after = after;
          whole = split;
          left_is = gone;
          below = λ none. absurd (has-fault (opening front) torn none);
          answer = nothing-written held (opening front) _ torn;
        }

-- ---- the summary ----

not-over : (n r : ℕ) → n ≡ min r (2 ^ 64 - 1) → r ≤ 1159641169920000 → n ≡ r
not-over n r e le = omega arith

abbrev summary : ℕ → ℕ → ℕ → ℕ → Summary
summary ticks runs packets refusals = record { ticks = ticks; runs = runs; packets = packets; refused = refusals }

same-summary : (ticks told r r' p p' q q' : ℕ) → told ≡ ticks → r ≡ r' → p ≡ p' → q ≡ q' → summary told r p q ≡ summary ticks r' p' q'
same-summary ticks told r r' p p' q q' t a b c = rw (t, a, b, c) refl

-- a Book that has handed out all that was closed has made just the runs that were due
pub runs-due : (b : Book) (f : Feed) (runs : ℕ) → collects f ≡ closes f → StandsFor b f → ((c : Core) → Stands b c → runs ≡ c.issued) → runs ≡ due g726 f
runs-due b f runs even s issued =
    let even' : collects s.core.feed ≡ closes s.core.feed = subst (λ (x : Feed). collects x ≡ closes x) (sym s.feed) even in
    issued s.core s.stands ∙ issued-due b s.core s.stands even' ∙ ap (due g726) s.feed

-- a session's own feed tells what it tells
pub tells-itself : (h : Events) → TellsSame (feed_of h) (feed_of h)
tells-itself h = record { even = all-collected h; left = refl; runs = refl }

-- it has handed out all that was closed
pub even-session : (b : Book) (D : Events → Type 0) (n : ℕ) → (h : Events) × D h × HandedAll b (feed_of h) n × (closes (feed_of h) ≡ n) → IsEven b
even-session b D n (h, d, stands, all) = (feed_of h, stands.0, stands.2)

-- what was summed up once the rest was written
pub leaves : (D : Events → Type 0) (b : Book) (ticks told runs packets rests all refusals : ℕ) (old new : Option (List ℕ)) → told ≡ ticks
    → ((c : Core) → Stands b c → runs ≡ c.issued) → ((c : Core) → Stands b c → rests ≡ length (rest g726 c.feed)) → all ≡ packets + rests
    → ((h : Events) → D h → refusals ≡ min (refused h) (2 ^ 64 - 1)) → ((f : Feed) → StandsFor b f → Grows old new (tick_text ticks (rest g726 f)))
    → (h : Events) (f : Feed) → D h → StandsFor b f → TellsSame f (feed_of h)
    → Leaves ticks packets old new h (record { ticks = told; runs = runs; packets = all; refused = refusals })
leaves D b ticks told runs packets rests all refusals old new same issued many sum refs grew h f d s tells =
    let left : rests ≡ length (rest g726 (feed_of h)) = as-many b rests f many s ∙ ap (λ (ps : List Packet). length ps) tells.left in
    let made : runs ≡ due g726 (feed_of h) = runs-due b f runs tells.even s issued ∙ tells.runs in
    record {
      wrote = subst (λ (ps : List Packet). Grows old new (tick_text ticks ps)) tells.left (grew f s);
      summary_is = same-summary ticks told runs _ all _ refusals _ same made (sum ∙ ap (λ (n : ℕ). packets + n) left) (refs h d);
    }

-- ---- the whole answer ----

-- where no fault is met all ticks are run
runs-all : (ticks : ℕ) (its : List DumpItem) (f : Option Fault) → met_after ticks its f ≡ None → ticks_before ticks its f ≡ ticks
runs-all ticks its None e = refl
runs-all ticks its (Some x) e =
    let m : Meeting = record { fault = x; tick = ticks_ended its } in
    elim (cases_Bool (nat_lt (ticks_ended its) ticks)) [
      | inl t ↦ let some = cond-true (nat_lt (ticks_ended its) ticks) (Some m) None t in absurd (cc)
      | inr t ↦ let le = ltb-false (ticks_ended its) ticks t in omega arith
    ]

text-whole : (plan : List Timed) (ticks : ℕ) (c : Capture) → met ticks c ≡ None
    → text_of g726 plan ticks c ≡ ticks_text g726 ticks (feed_of (events_over plan (items c) ticks)) ++ tick_text ticks (rest g726 (feed_of (events_over plan (items c) ticks)))
text-whole plan ticks c e =
    let feed : ℕ → Feed = λ n. feed_of (events_over plan (items c) n) in
    let text : ℕ → Option Meeting → List ℕ = λ n m. ticks_text g726 n (feed n) ++ rest_text g726 ticks m (feed n) in
    ap (λ (n : ℕ). text n (met ticks c)) (runs-all ticks (items c) c.fault e) ∙ ap (text ticks) e

-- the ticks' text, and that of what is left
whole-text : (g : Given) → head_fault g.bytes ≡ None → met g.ticks (capture g.bytes) ≡ None
    → written g726 g.plan g.ticks g.bytes ≡ answer_to g726 g.ticks (feed_to g g.ticks) ++ tick_text g.ticks (rest g726 (feed_to g g.ticks))
whole-text g head none =
    written-is g.plan g.ticks g.bytes head
    ∙ ap (λ (text : List ℕ). output_head ++ text) (text-whole g.plan g.ticks (capture g.bytes) none)
    ∙ sym (append_assoc output_head (ticks_text g726 g.ticks (feed_to g g.ticks)) (tick_text g.ticks (rest g726 (feed_to g g.ticks))))

-- where B holds of the feed of the ticks that were run, and C is known of it by then
finished : (g : Given) (left old mid new : Option (List ℕ)) (D : Events → Type 0) (B C : Feed → Type 0) (packets : ℕ) (s : Summary) → g.ticks < 4320001
    → ((h : Events) → D h → B (feed_of h) → C (feed_of h)) → ((h : Events) → D h → B (feed_of h) → Leaves g.ticks packets mid new h s)
    → HasRun g (traces left old mid) D B packets → Finished g (traces left old new) C s
finished g left old mid new D B C packets s few stands leaves r =
    let h = events_to g g.ticks in
    let l = leaves h r.desk_stands r.conference_stands in
    let sent = sent_to g726 g.ticks (feed_of h) in
    let last = rest g726 (feed_of h) in
    let sum : packets + length last ≡ length (sent ++ last) = omega (arith, r.counted, length-append sent last) in
    record {
      head = r.head;
      faultless = r.faultless;
      answer =
          subst (λ (text : List ℕ). Grows old new text) (sym (whole-text g r.head r.faultless))
          (grows_append old mid new (answer_to g726 g.ticks (feed_of h)) (tick_text g.ticks last) r.answer l.wrote);
      summary_is = l.summary_is
          ∙ same-summary g.ticks g.ticks _ _ _ _ _ _ refl refl sum
          (not-over (min (refused h) (2 ^ 64 - 1)) (refused h) refl (refused-few g.plan g.bytes g.ticks (omega arith)));
      feed = stands h r.desk_stands r.conference_stands;
      taken = r.taken;
    }

-- all was run, and what is left was written
pub finished_all : (o : Option (List ℕ)) (plan : List Timed) (ticks : ℕ) (left old mid new : Option (List ℕ)) (D : Events → Type 0) (B C : Feed → Type 0)
    (packets : ℕ) (s : Summary) → ticks < 4320001
    → ((h : Events) → D h → B (feed_of h) → C (feed_of h)) → ((h : Events) → D h → B (feed_of h) → Leaves ticks packets mid new h s)
    → IfSome o (λ bytes. HasRun (record { plan = plan; ticks = ticks; bytes = bytes }) (record { left = left; old = old; new = mid }) D B packets)
    → IfSome o (λ bytes. Finished (record { plan = plan; ticks = ticks; bytes = bytes }) (record { left = left; old = old; new = new }) C s)
finished_all None plan ticks left old mid new D B C packets s few stands leaves r = tt
finished_all (Some bytes) plan ticks left old mid new D B C packets s few stands leaves r =
    finished (given plan ticks bytes) left old mid new D B C packets s few stands leaves r

-- or a front of that
pub unfinished : (o : Option (List ℕ)) (plan : List Timed) (ticks : ℕ) (left old mid new : Option (List ℕ)) (D : Events → Type 0) (B C : Feed → Type 0)
    (packets : ℕ) (why : PutFault) (end : RunEnd) → end ≡ end_of (of_put why)
    → ((h : Events) → D h → B (feed_of h) → GrowsByFront mid new (tick_text ticks (rest g726 (feed_of h))))
    → IfSome o (λ bytes. HasRun (record { plan = plan; ticks = ticks; bytes = bytes }) (record { left = left; old = old; new = mid }) D B packets)
    → IfSome o (λ bytes. RunEnds (record { plan = plan; ticks = ticks; bytes = bytes }) (record { left = left; old = old; new = new }) C end)
unfinished o plan ticks left old mid new D B C packets why end is front r =
    subst (λ (e : RunEnd). IfSome o (λ bytes. RunEnds (given plan ticks bytes) (traces left old new) C e)) (sym is) (by-told o r)
  where
    by-put : (why : PutFault) (bytes : List ℕ) → WritesFront (given plan ticks bytes) (traces left old new)
        → RunEnds (given plan ticks bytes) (traces left old new) C (end_of (of_put why))
    by-put put.Failed bytes h = h
    by-put put.Memory bytes h = h

    by-told : (o : Option (List ℕ)) → IfSome o (λ bytes. HasRun (given plan ticks bytes) (traces left old mid) D B packets)
        → IfSome o (λ bytes. RunEnds (given plan ticks bytes) (traces left old new) C (end_of (of_put why)))
    by-told None r = tt
    by-told (Some bytes) r =
        let g = given plan ticks bytes in
        let last = rest g726 (feed_to g ticks) in
        by-put why bytes
        (subst (λ (text : List ℕ). GrowsByFront old new text) (sym (whole-text g r.head r.faultless))
        (front_then_front old mid new (answer_to g726 ticks (feed_to g ticks)) (tick_text ticks last) r.answer
        (front (events_to g ticks) r.desk_stands r.conference_stands)))

-- what ended the session is the end of the run
pub stopped-run : (o : Option (List ℕ)) (plan : List Timed) (ticks : ℕ) (t : Traces) (C : Feed → Type 0) (why : Stop) (end : RunEnd) → end ≡ end_of why
    → IfSome o (λ bytes. HasStopped (record { plan = plan; ticks = ticks; bytes = bytes }) t why)
    → IfSome o (λ bytes. RunEnds (record { plan = plan; ticks = ticks; bytes = bytes }) t C end)
stopped-run o plan ticks t C why end is h = subst (λ (e : RunEnd). IfSome o (λ bytes. RunEnds (given plan ticks bytes) t C e)) (sym is) (by-stop why o h)
  where
    by-stop : (why : Stop) (o : Option (List ℕ)) → IfSome o (λ bytes. HasStopped (given plan ticks bytes) t why) → IfSome o (λ bytes. RunEnds (given plan ticks bytes) t C (end_of why))
    by-stop (stop.Dump at kind) o h = h
    by-stop stop.Read o h = h
    by-stop stop.Write o h = h
    by-stop stop.Memory o h = h
