-- What is known of a Book once its lock is closed, and of the passes that come back.
use Rattle.std.proofs.Common.{zero, suc, ◌≡◌, ◌<◌, ◌≤◌, ◌+◌, ℕ, true, List, [], ◌∷◌, ◌++◌, length, take, drop, filter, refl, sym, ◌∙◌, ap, subst, arith, inl, inr, append-nil, Option, Some, None, Result, Ok, Err}
use Rattle.std.specs.Prelude.{nat_lt, IfSome}
use Rattle.std.specs.List.{All}
use Rattle.std.proofs.lemmas.Bool.{cond-true, lt-ltb}
use Rattle.std.proofs.Math.Seq.{take-append_seam}
use Rattle.atomic_table.specs.Seated.{TableId}
use Rattle.book_lock.specs.Known.{Known}
use Rattle.conference_spec.specs.declared.Entry.{Entry}
use Rattle.conference_spec.specs.declared.Entry.TheVariants.{End}
use Rattle.conference_spec.specs.declared.Task.{Task}
use Rattle.conference_spec.specs.Codec.{g726}
use Rattle.conference_spec.specs.Feed.{Feed, Guest, closes, collects, guests}
use Rattle.conference_spec.specs.Packets.{rest}
use Rattle.conference_spec.specs.Tasks.{tasks, due}
use Rattle.conference_spec.specs.Machine.{Core, Run, is_finished}
use Rattle.conference_spec.specs.Members.{In}
use Rattle.conference_spec.proofs.Equal.{g726-tells}
use Rattle.conference_spec.proofs.Told.{told}
use Rattle.conference_spec.proofs.Wants.{wanted-tick}
use Rattle.tick_core.specs.declared.book.Book.{Book}
use Rattle.tick_core.specs.Standing.{Stands}
use Rattle.tick_core.specs.Locking.{Parts, core_of, parts_of, StandsWith}
use Rattle.tick_core.proofs.Twins.{kept-all, entries-all}
use Rattle.desk_run.specs.BookSide.{StandsFor, IsEven}
use Rattle.desk_run.specs.Whole.{TellsSame, Traces, RunEnds, HasRun, HasStopped}
use Rattle.desk_run.specs.declared.stops.Stop.{Stop}
use Rattle.session_spec.specs.Talkers.{Events}
use Rattle.session_spec.specs.Events.{feed_of}
use Rattle.session_spec.specs.Answer.{written}
use Rattle.session_spec.specs.Captured.{items, heard_in}
use Rattle.session_spec.proofs.Following.{events-closes}
use Rattle.rtp_dump.specs.Capture.{capture}
use Rattle.desk_run.specs.declared.run.RunEnd.TheVariants.{Memory}
use Rattle.edge_io.specs.Told.{GrowsByFront}
use Rattle.roster_text.specs.declared.commands.Timed.{Timed}
use Rattle.book_seat.specs.Seated.{Working}
use Rattle.desk_shared.specs.Handed.{without_collects}
use Rattle.desk_shared.specs.Ended.{Sides, HasEnded, StayAt}
use Rattle.desk_shared.specs.Shared.{AreHired, IsOver, WentAlong}
use Rattle.desk_shared.proofs.Handing.{same-closes, same-guests, same-rest, same-due}

-- ---- passes ----

one-home : (a b : TableId) → a ∷ [] ≡ b ∷ [] → a ≡ b
one-home a b e = cc

-- those who were lent to the pool come back as a list whose front they are
pub still-hired : (count len : ℕ) (desk now : Known Entry Parts) (items news : List Working) → AreHired count desk items → len ≡ length items
    → StayAt (λ (w : Working). w.pass.home ∷ []) items news → now.home ≡ desk.home → now.view.out ≡ count
    → AreHired now.view.out now (take len (news ++ drop (length news) items))
still-hired count len desk now items news hired all stay home out =
    let e : len ≡ length news = all ∙ sym stay.count in
    let same : take len (news ++ drop (length news) items) ≡ news =
    ap (λ (n : ℕ). take n (news ++ drop (length news) items)) e ∙ take-append_seam news (drop (length news) items) in
    let lists = stay.each (desk.home ∷ []) (λ k d lt. ap (λ (x : TableId). x ∷ []) (hired.homes k d lt)) in
    subst (λ (ws : List Working). AreHired now.view.out now ws) (sym same)
    (record {
      homes = λ k d lt. one-home _ _ (lists k d lt) ∙ sym home;
      count_is = stay.count ∙ hired.count_is ∙ sym out;
    })

-- ---- runs ----

all-below : (n : ℕ) (xs : List Task) → ((x : Task) → In x xs → x.tick < n) → length (filter (λ x. nat_lt x.tick n) xs) ≡ length xs
all-below n [] below = refl
all-below n (x ∷ xs) below =
    let ih = all-below n xs (λ y i. below y (inr i)) in
    let here = ap (λ (ys : List Task). length ys)
    (cond-true (nat_lt x.tick n) (x ∷ filter (λ y. nat_lt y.tick n) xs) (filter (λ y. nat_lt y.tick n) xs) (lt-ltb x.tick n (below x (inl refl)))) in
    omega arith

none-left : (rs : List Run) → length rs ≡ 0 → rs ≡ []
none-left [] e = refl
none-left (r ∷ rs) e = absurd (omega arith)

-- where each tick that was closed is collected, no run is kept
runs-none : (b : Book) (c : Core) → Stands b c → collects c.feed ≡ closes c.feed → c.runs ≡ []
runs-none b c st even =
    let counted = (told g726 g726-tells c (kept-all b c st)).counted in
    let all = all-below (collects c.feed) (tasks g726 c.feed)
    (λ x i. subst (λ (n : ℕ). x.tick < n) (sym even) (wanted-tick g726 (λ l. true) c.feed x i)) in
    let count = counted.count in
    let at_end = counted.at_end even in
    none-left c.runs (omega arith)

-- ---- the Book ----

no-entries : (h : Feed) → length h ≡ 0 → h ≡ []
no-entries [] e = refl
no-entries (x ∷ h) e = absurd (omega arith)

-- the pass of a new lock round a Book to which nothing has happened has seen nothing
pub none-seen : (b : Book) (seen : Feed) → StandsFor b [] → (parts : Parts) × StandsWith b seen parts → seen ≡ []
none-seen b seen s (parts, st) =
    no-entries seen (sym (entries-all b (core_of seen parts) st) ∙ entries-all b s.core s.stands ∙ ap (λ (f : Feed). length f) s.feed)

-- the Book as the value of its lock
pub for-lock : (b : Book) → StandsFor b [] → (feed : Feed) × (parts : Parts) × StandsWith b feed parts
for-lock b s = (s.core.feed, parts_of s.core, s.stands)

-- what the lock gives back carries the session
pub went-along : (b : Book) (seen h : Feed) (n : ℕ) → (parts : Parts) × StandsWith b seen parts → IsOver seen h n → n ≡ closes h → WentAlong b h
went-along b seen h n (parts, st) o all =
    let even : collects o.own ≡ closes o.own = o.count ∙ all ∙ sym (same-closes o.own h o.same) in
    let core : Core = core_of seen parts in
    let over : collects core.feed ≡ closes core.feed = subst (λ (f : Feed). collects f ≡ closes f) (sym o.ended') even in
    record {
      own = o.own;
      stands = record {
        core = core;
        stands = st;
        feed = o.ended';
        finished = subst (All (λ (r : Run). is_finished r.stage ≡ true)) (sym (runs-none b core st over)) (λ k d lt. absurd (omega arith));
        lawful = subst (All (λ (g : Guest). g.listener.spec.pt ≤ 127)) (sym (same-guests o.own h o.same)) o.lawful;
      };
      same = o.same;
      even = even;
    }

-- and tells what the session's feed tells
pub tells-along : (own h : Feed) → without_collects own ≡ without_collects h → collects own ≡ closes own → TellsSame (End ∷ own) h
tells-along own h same even = record { even = even; left = same-rest own h same; runs = same-due own h same }

-- ---- ends ----

-- nothing was written
pub front-none : (out : Option (List ℕ)) (piece : List ℕ) → GrowsByFront out out piece
front-none None piece = refl
front-none (Some held) piece = (0, ap Some (sym (append-nil held)))

-- a session that found no memory before it began
pub none-begun : (o left old new : Option (List ℕ)) (plan : List Timed) (ticks : ℕ) (C : Feed → Type 0) → new ≡ old
    → IfSome o (λ bytes. RunEnds (record { plan = plan; ticks = ticks; bytes = bytes }) (record { left = left; old = old; new = new }) C Memory)
none-begun None left old new plan ticks C same = tt
none-begun (Some bytes) left old new plan ticks C same =
    subst (λ (held : Option (List ℕ)). GrowsByFront old held (written g726 plan ticks bytes)) (sym same) (front-none old _)

-- a session that ended well: what its desk and its conference then stand for
pub ended-well : (s : Sides) (D : Events → Type 0) (C : Feed → Type 0) (end : Result ℕ Stop) (packets : ℕ) → end ≡ Ok packets → HasEnded s D C end
    → (h : Events) × D h × C (feed_of h) × (closes (feed_of h) ≡ s.ticks)
ended-well s D C end packets is ended = (subst (λ (r : Result ℕ Stop). HasEnded s D C r) is ended).stands

pub ran-well : (s : Sides) (D : Events → Type 0) (C : Feed → Type 0) (end : Result ℕ Stop) (packets : ℕ) → end ≡ Ok packets → HasEnded s D C end
    → IfSome s.bytes (λ bytes. HasRun (record { plan = s.plan; ticks = s.ticks; bytes = bytes }) (record { left = s.left; old = s.old; new = s.new }) D C packets)
ran-well s D C end packets is ended = (subst (λ (r : Result ℕ Stop). HasEnded s D C r) is ended).ran

pub stopped-so : (s : Sides) (D : Events → Type 0) (C : Feed → Type 0) (end : Result ℕ Stop) (why : Stop) → end ≡ Err why → HasEnded s D C end
    → IfSome s.bytes (λ bytes. HasStopped (record { plan = s.plan; ticks = s.ticks; bytes = bytes }) (record { left = s.left; old = s.old; new = s.new }) why)
stopped-so s D C end why is ended = (subst (λ (r : Result ℕ Stop). HasEnded s D C r) is ended).stopped

-- the feed of a session has as many closes as it has ticks
pub closed-run : (o : Option (List ℕ)) (plan : List Timed) (ticks : ℕ) (t : Traces) (D : Events → Type 0) (C : Feed → Type 0) (packets : ℕ)
    → IfSome o (λ bytes. HasRun (record { plan = plan; ticks = ticks; bytes = bytes }) t D C packets)
    → IfSome o (λ bytes. HasRun (record { plan = plan; ticks = ticks; bytes = bytes }) t D (λ f. C f × (closes f ≡ ticks)) packets)
closed-run None plan ticks t D C packets r = tt
closed-run (Some bytes) plan ticks t D C packets r = record {
  head = r.head;
  faultless = r.faultless;
  answer = r.answer;
  desk_stands = r.desk_stands;
  conference_stands = (r.conference_stands, events-closes plan (heard_in (items (capture bytes))) ticks);
  counted = r.counted;
  taken = r.taken;
}

-- the Book has then handed out all that was closed
pub even-along : (b : Book) (seen : Feed) (D : Events → Type 0) (n : ℕ) → (parts : Parts) × StandsWith b seen parts
    → (h : Events) × D h × IsOver seen (feed_of h) n × (closes (feed_of h) ≡ n) → IsEven b
even-along b seen D n st (h, d, o, all) =
    let w = went-along b seen (feed_of h) n st o (sym all) in
    (End ∷ w.own, w.stands, w.even)
