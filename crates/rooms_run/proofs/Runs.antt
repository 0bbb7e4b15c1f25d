-- Rooms that begin may be run, and those that were run have run what they were given.
use Rattle.std.proofs.Common.{◌≡◌, ◌≢◌, ℕ, ◌+◌, ◌<◌, List, [], ◌∷◌, ◌++◌, length, reverse, All, Option, Some, Result, Ok, Err, refl, sym, ap, ◌∙◌, subst, arith}
use Rattle.std.specs.List.{AllZip}
use Rattle.std.specs.Prelude.{take, drop, IfOk}
use Rattle.std.specs.declared.collections.LinkedList.{LinkedList}
use Rattle.std.specs.Global.{Global}
use Rattle.std.proofs.Math.Seq.{take-append_seam}
use Rattle.atomic_table.specs.Seated.{TableId}
use Rattle.book_lock.specs.Known.{Known}
use Rattle.roster_text.specs.declared.commands.Timed.{Timed}
use Rattle.conference_spec.specs.declared.Entry.{Entry}
use Rattle.conference_spec.specs.Feed.{Feed}
use Rattle.session_spec.specs.Talkers.{Events}
use Rattle.tick_core.specs.Locking.{Parts}
use Rattle.desk_run.specs.declared.stops.Stop.{Stop}
use Rattle.desk_run.specs.Whole.{Given}
use Rattle.book_seat.specs.Seated.{Post, post_of}
use Rattle.desk_shared.specs.declared.waiting.Posts.{Posts}
use Rattle.desk_shared.specs.Ended.{HasEnded}
use Rattle.desk_shared.specs.Handed.{HandedOut}
use Rattle.desk_shared.specs.Shared.{IsOver}
use Rattle.roster_desk.specs.Serving.{Begins}
use Rattle.roster_desk.specs.declared.serving.RosterDesk.{RosterDesk}
use Rattle.rooms_run.specs.declared.closing.Outcome.{Outcome}
use Rattle.rooms_run.specs.declared.ends.RoomEnd.{RoomEnd}
use Rattle.rooms_run.specs.declared.room.Room.{Room}
use Rattle.rooms_run.specs.declared.room.Seat.{Seat}
use Rattle.rooms_run.specs.declared.room.Seat.TheVariants.{Ends, Runs}
use Rattle.rooms_run.specs.declared.start.Start.{Start}
use Rattle.rooms_run.specs.Starting.{start_gives}
use Rattle.rooms_run.specs.Running.{Starts, HasRun}
use Rattle.rooms_run.specs.Seating.{IsReady, HasRunAt, EachRan}
use Rattle.rooms_run.specs.Seated.{IsSeated, SeatedFor, IsRun, RunFor}
use Rattle.rooms_run.specs.Outcomes.{Comes}
use Rattle.rooms_run.proofs.Zips.{zip_along, zip_long, zip_right, zip_each, zip_reversed}
use Rattle.std.proofs.lemmas.List.{length-reverse}

-- a session's end, said of what it was given
ended-for : (given : Given) (left new : List ℕ) (desk : Events → Type 0) (conference : ℕ → Feed → Type 0) (end : Result ℕ Stop)
    (plan : List Timed) (ticks : ℕ) (bytes old : List ℕ) → plan ≡ given.plan → ticks ≡ given.ticks → bytes ≡ given.bytes → old ≡ []
    → HasEnded (record { plan = plan; ticks = ticks; bytes = Some bytes; left = Some left; old = Some old; new = Some new; reads = (0, 0); writes = (0, 0) }) desk (conference ticks) end
    → HasEnded (record { plan = given.plan; ticks = given.ticks; bytes = Some given.bytes; left = Some left; old = Some []; new = Some new; reads = (0, 0); writes = (0, 0) })
    desk (conference given.ticks) end
ended-for given left new desk conference end plan ticks bytes old p t b o h =
    subst (λ (xs : List ℕ). HasEnded (record { plan = given.plan; ticks = given.ticks; bytes = Some given.bytes; left = Some left; old = Some xs; new = Some new; reads = (0, 0); writes = (0, 0) }) desk (conference given.ticks) end) o
    (subst (λ (xs : List ℕ). HasEnded (record { plan = given.plan; ticks = given.ticks; bytes = Some xs; left = Some left; old = Some old; new = Some new; reads = (0, 0); writes = (0, 0) }) desk (conference given.ticks) end) b
    (subst (λ (n : ℕ). HasEnded (record { plan = given.plan; ticks = n; bytes = Some bytes; left = Some left; old = Some old; new = Some new; reads = (0, 0); writes = (0, 0) }) desk (conference n) end) t
    (subst (λ (cs : List Timed). HasEnded (record { plan = cs; ticks = ticks; bytes = Some bytes; left = Some left; old = Some old; new = Some new; reads = (0, 0); writes = (0, 0) }) desk (conference ticks) end) p h)))

module _ {L C P : Type 0} (known : C → Known Entry Parts) (lock : L → TableId) (post : C → P) (home_of : P → TableId) (at_home : (c : C) → home_of (post c) ≡ (known c).home) where
  -- how a room of these is run
  abbrev pub RunsTo : Seat L RosterDesk C → Seat L RosterDesk C → Type 0
  RunsTo s t = HasRunAt (λ (d : RosterDesk). d.plan.timed) (λ (d : RosterDesk) (h : Events). Begins d h) (λ (c : C) (f : Feed) (n : ℕ). IsOver (known c).view.seen f n) post s t

  no-room : (r : Room L RosterDesk C) (end : RoomEnd) → ◌≡◌ {A = Seat L RosterDesk C} (Runs r) (Ends end) → ⊥
  no-room r end e = cc

  room-run : (given : Given) (r s : Room L RosterDesk C) → IsSeated known lock given r
      → HasRun (λ (d : RosterDesk). d.plan.timed) (λ (d : RosterDesk) (h : Events). Begins d h) (λ (c : C) (f : Feed) (n : ℕ). IsOver (known c).view.seen f n) post r s → IsRun known lock given s
  room-run given r s seated ran = record {
    ended = ended-for given s.dump s.out.octets (λ (h : Events). Begins s.desk h) (λ (n : ℕ) (f : Feed). IsOver (known s.conference).view.seen f n) s.end
        r.desk.plan.timed r.ticks r.dump r.out.octets seated.plan_is seated.ticks_is seated.dump_is seated.out_is ran.ended;
    ticks_is = ran.ticks_is ∙ seated.ticks_is;
    short = seated.short;
    home_is = sym (at_home s.conference) ∙ ap home_of ran.post_is ∙ at_home r.conference ∙ seated.home_is ∙ sym (ap lock ran.lock_is);
  }

  pub seat-run : (gives : Result Given RoomEnd) (s t : Seat L RosterDesk C) → SeatedFor known lock gives s → RunsTo s t → RunFor known lock gives t
  seat-run (Err end) (Ends e) t seated ran = ran ∙ seated
  seat-run (Err end) (Runs r) t seated ran = absurd (no-room r end seated)
  seat-run (Ok given) (Ends e) t seated ran = absurd seated
  seat-run (Ok given) (Runs r) (Ends e) seated ran = absurd ran
  seat-run (Ok given) (Runs r) (Runs s) seated ran = room-run given r s seated ran

  -- rooms of which each was seated for what it begins with, and was then run
  pub seats-run : (starts : List Start) (ss ts : List (Seat L RosterDesk C))
      → AllZip (λ (start : Start) (s : Seat L RosterDesk C). SeatedFor known lock (start_gives start) s) starts ss → EachRan RunsTo ss ts
      → AllZip (λ (start : Start) (t : Seat L RosterDesk C). RunFor known lock (start_gives start) t) starts ts
  seats-run starts ss ts seated ran =
      zip_along (λ (start : Start) (s : Seat L RosterDesk C). SeatedFor known lock (start_gives start) s) RunsTo (λ (start : Start) (t : Seat L RosterDesk C). RunFor known lock (start_gives start) t)
      (λ start s t. seat-run (start_gives start) s t) starts ss ts seated (zip_each RunsTo ss ts ran)

  pub some-run : (starts : List Start) (ts : List (Seat L RosterDesk C)) → AllZip (λ (start : Start) (t : Seat L RosterDesk C). RunFor known lock (start_gives start) t) starts ts
      → All (λ (t : Seat L RosterDesk C). (gives : Result Given RoomEnd) × RunFor known lock gives t) ts
  some-run starts ts all =
      zip_right (λ (start : Start) (t : Seat L RosterDesk C). RunFor known lock (start_gives start) t) (λ (t : Seat L RosterDesk C). (gives : Result Given RoomEnd) × RunFor known lock gives t)
      (λ start t run. (start_gives start, run)) starts ts all

  -- what becomes of each
  pub all-come : (starts : List Start) (ts : List (Seat L RosterDesk C)) (os : List Outcome)
      → AllZip (λ (start : Start) (t : Seat L RosterDesk C). RunFor known lock (start_gives start) t) (reverse starts) ts
      → AllZip (λ (t : Seat L RosterDesk C) (o : Outcome). (gives : Result Given RoomEnd) → RunFor known lock gives t → Comes gives o) (reverse ts) os
      → AllZip (λ (start : Start) (o : Outcome). Comes (start_gives start) o) starts os
  all-come starts ts os run come =
      zip_along (λ (start : Start) (t : Seat L RosterDesk C). RunFor known lock (start_gives start) t) (λ (t : Seat L RosterDesk C) (o : Outcome). (gives : Result Given RoomEnd) → RunFor known lock gives t → Comes gives o)
      (λ (start : Start) (o : Outcome). Comes (start_gives start) o) (λ start t o run come. come (start_gives start) run) starts (reverse ts) os
      (zip_reversed (λ (start : Start) (t : Seat L RosterDesk C). RunFor known lock (start_gives start) t) starts ts run) come

-- what was lent and comes back of the same length is all there is
came-back : {X : Type 0} (len : ℕ) (items news : List X) → len ≡ length items → length news ≡ length items → take len (news ++ drop (length news) items) ≡ news
came-back len items news all same =
    ap (λ (n : ℕ). take n (news ++ drop (length news) items)) (all ∙ sym same) ∙ take-append_seam news (drop (length news) items)

pub if-ok : {A E : Type 0} (P Q : A → Type 0) (r : Result A E) → ((x : A) → P x → Q x) → IfOk r P → IfOk r Q
if-ok P Q (Ok x) f p = f x p
if-ok P Q (Err e) f p = p

-- rooms that were lent to be run, and what becomes of them
module _ {L C X : Type 0} (known : C → Known Entry Parts) (lock : L → TableId) (help : C → LinkedList X Global) where
  abbrev pub post_at : C → Posts Post X
  post_at c = record { desk = post_of (known c); help = help c }

  abbrev pub WereRun : List (Seat L RosterDesk C) → List (Seat L RosterDesk C) → Type 0
  WereRun ss ts = EachRan (HasRunAt (λ (d : RosterDesk). d.plan.timed) (λ (d : RosterDesk) (h : Events). Begins d h) (λ (c : C) (f : Feed) (n : ℕ). IsOver (known c).view.seen f n) post_at) ss ts

  lent-run : (len : ℕ) (starts : List Start) (ss lent ts : List (Seat L RosterDesk C)) → lent ≡ ss → len ≡ length ss
      → AllZip (λ (start : Start) (s : Seat L RosterDesk C). SeatedFor known lock (start_gives start) s) (reverse starts) ss → WereRun lent ts
      → AllZip (λ (start : Start) (t : Seat L RosterDesk C). RunFor known lock (start_gives start) t) (reverse starts) (take len (ts ++ drop (length ts) ss))
  lent-run len starts ss lent ts same all seated ran =
      let ran' : WereRun ss ts = subst (λ (us : List (Seat L RosterDesk C)). WereRun us ts) same ran in
      let back : take len (ts ++ drop (length ts) ss) ≡ ts = came-back len ss ts all ran'.count in
      subst (λ (us : List (Seat L RosterDesk C)). AllZip (λ (start : Start) (t : Seat L RosterDesk C). RunFor known lock (start_gives start) t) (reverse starts) us) (sym back)
      (seats-run known lock post_at (λ (q : Posts Post X). q.desk.home) (λ c. refl) (reverse starts) ss ts seated ran')

  pub lent-ready : (len : ℕ) (starts : List Start) (ss lent ts : List (Seat L RosterDesk C)) → lent ≡ ss → len ≡ length ss
      → AllZip (λ (start : Start) (s : Seat L RosterDesk C). SeatedFor known lock (start_gives start) s) (reverse starts) ss → WereRun lent ts
      → All (λ (t : Seat L RosterDesk C). (gives : Result Given RoomEnd) × RunFor known lock gives t) (take len (ts ++ drop (length ts) ss))
  lent-ready len starts ss lent ts same all seated ran =
      some-run known lock post_at (λ (q : Posts Post X). q.desk.home) (λ c. refl) (reverse starts) (take len (ts ++ drop (length ts) ss))
      (lent-run len starts ss lent ts same all seated ran)

  pub lent-come : (len : ℕ) (starts : List Start) (ss lent ts : List (Seat L RosterDesk C)) (os : List Outcome) → lent ≡ ss → len ≡ length ss
      → AllZip (λ (start : Start) (s : Seat L RosterDesk C). SeatedFor known lock (start_gives start) s) (reverse starts) ss → WereRun lent ts
      → AllZip (λ (t : Seat L RosterDesk C) (o : Outcome). (gives : Result Given RoomEnd) → RunFor known lock gives t → Comes gives o) (reverse (take len (ts ++ drop (length ts) ss))) os
      → AllZip (λ (start : Start) (o : Outcome). Comes (start_gives start) o) starts os
  lent-come len starts ss lent ts os same all seated ran come =
      all-come known lock post_at (λ (q : Posts Post X). q.desk.home) (λ c. refl) starts (take len (ts ++ drop (length ts) ss)) os
      (lent-run len starts ss lent ts same all seated ran) come

-- each room that is seated may be run
module _ {L C : Type 0} (known : C → Known Entry Parts) (lock : L → TableId) where
  -- the desk of a room has seen just what the session's feed has
  abbrev pub stands : C → Feed → ℕ → Type 0
  stands c h n = HandedOut (λ f. (known c).view.seen ≡ f) h n × Unit {0}

  fresh : (c : C) → (known c).view.seen ≡ [] → stands c [] 0
  fresh c e = (record { own = []; stands = e; same = refl; count = refl; behind = omega arith; near = omega arith; open' = refl; lawful = λ k d lt. absurd (omega arith) }, tt)

  no-session : (r : Room L RosterDesk C) (end : RoomEnd) → ◌≡◌ {A = Seat L RosterDesk C} (Runs r) (Ends end) → ⊥
  no-session r end e = cc

  seat-ready : (gives : Result Given RoomEnd) (s : Seat L RosterDesk C) → SeatedFor known lock gives s → IsReady (λ (d : RosterDesk) (h : Events). Begins d h) stands s
  seat-ready gives (Ends end) seated = tt
  seat-ready (Err end) (Runs r) seated = absurd (no-session r end seated)
  seat-ready (Ok given) (Runs r) seated =
      (seated.begins, fresh r.conference seated.seen_is, (let few = seated.short in let same = seated.ticks_is in omega arith))

  pub seats-ready : (starts : List Start) (ss now : List (Seat L RosterDesk C)) → now ≡ ss → 0 < length starts
      → AllZip (λ (start : Start) (s : Seat L RosterDesk C). SeatedFor known lock (start_gives start) s) (reverse starts) ss
      → (0 < length now) × All (IsReady (λ (d : RosterDesk) (h : Events). Begins d h) stands) now
  seats-ready starts ss now same some all =
      let long : length ss ≡ length (reverse starts) = zip_long (λ (start : Start) (s : Seat L RosterDesk C). SeatedFor known lock (start_gives start) s) (reverse starts) ss all in
      let turned : length (reverse starts) ≡ length starts = length-reverse starts in
      let more : 0 < length ss = omega arith in
      subst (λ (us : List (Seat L RosterDesk C)). (0 < length us) × All (IsReady (λ (d : RosterDesk) (h : Events). Begins d h) stands) us) (sym same) (
        more,
        zip_right (λ (start : Start) (s : Seat L RosterDesk C). SeatedFor known lock (start_gives start) s) (IsReady (λ (d : RosterDesk) (h : Events). Begins d h) stands)
            (λ start s seated. seat-ready (start_gives start) s seated) (reverse starts) ss all,
      )
