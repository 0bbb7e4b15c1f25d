-- A collect.
use Rattle.std.proofs.Common.{◌≡◌, ℕ, ◌+◌, ◌<◌, ◌⊎◌, inl, inr, Bool, true, not, ◌||◌, List, [], ◌∷◌, ◌++◌, map, refl, sym, ◌∙◌, ap, subst, arith, Option}
use Rattle.std.proofs.Common.{Some, None}
use Rattle.std.specs.Prelude.{◌==◌}
use Rattle.std.specs.List.{filter, AllZip}
use Rattle.std.proofs.lemmas.Bool.{cases_Bool, cond-true, cond-false, not_from_false, not_from_true, both_ways, or_left, or_right, false≢true, eq-eqb}
use Rattle.std.proofs.lemmas.Bool.{eqb-true, ne_eqb, eqb-false}
use Rattle.talk_mix.specs.declared.ticks.Tick.{Tick}
use Rattle.conference_spec.specs.declared.Entry.TheVariants.{Join, Leave, Close, Collect, Cut, End}
use Rattle.conference_spec.specs.declared.Task.{Task}
use Rattle.conference_spec.specs.Coding.{Coder, Tells}
use Rattle.conference_spec.specs.Feed.{Feed, Listener, listeners, closes, collects, before, talkers}
use Rattle.conference_spec.specs.Tasks.{task_of, tasks_of, each_once, wanted, tasks}
use Rattle.conference_spec.specs.Machine.{Run, is_finished, is_done, has_passed, has, finished_tasks, Core, is_over, entered}
use Rattle.conference_spec.specs.Members.{In, Once, Kept}
use Rattle.conference_spec.proofs.Members.{in-append_left, in-append_right, in-append_cases, in-map, in-map_cases, in-filter, in-filter_parts, all-in}
use Rattle.conference_spec.proofs.Members.{in-all}
use Rattle.conference_spec.proofs.Wants.{own-wanted, at-wanted, wants-at}
use Rattle.conference_spec.proofs.Stages.{has-in, in-has, done-cases, done-finished, finished-run, run-finished, done-collected}
use Rattle.conference_spec.proofs.Events.{run-wanted, over-finished}
use Rattle.book_lists.specs.Levels.{Level, run_of, level_runs, all_runs, Knows, IsNewest, CameFrom, Sits, IsLevel, Opens, state_at, LevelsOnce}
use Rattle.book_lists.specs.Levels.{all_finished, SameRuns, IsTicket, Carries, Rests, OriginIs, Settles, settled}
use Rattle.book_lists.specs.declared.seats.Seat.{Seat}
use Rattle.book_lists.specs.declared.seats.Ticket.{Ticket}
use Rattle.book_lists.specs.declared.seats.Rest.{Rest}
use Rattle.book_lists.specs.declared.seats.Origin.{Origin}
use Rattle.book_lists.specs.declared.seats.Origin.TheVariants.{Known, Earlier}
use Rattle.book_lists.proofs.Rowing.{row_tasks}
use Rattle.book_lists.proofs.Seating.{known_if, state_of, get-in, passed-before, zip-map}
use Rattle.book_lists.proofs.Sweeping.{state-newest, own-early, list-all-agree}
use Rattle.book_lists.proofs.Swept.{triples_of, opens-number}
use Rattle.book_lists.proofs.Carrying.{run-below, level-tells}
use Rattle.book_lists.proofs.Publishing.{all-run}

-- the oldest open tick is the next to be collected
pub last-number : (coder : Coder) (gone : ℕ) (runs : List Run) (front : List Level) (v : Level) (h : Feed) → Opens coder gone runs (front ++ v ∷ []) h
    → v.number ≡ gone
last-number coder gone runs [] v [] o = absurd o
last-number coder gone runs [] v (Close tick ∷ h) o = let a = o.0.open' in let b = o.0.number in let d = o.1 in omega arith
last-number coder gone runs [] v (Join spec ∷ h) o = last-number coder gone runs [] v h o
last-number coder gone runs [] v (Leave m ∷ h) o = last-number coder gone runs [] v h o
last-number coder gone runs [] v (Collect ∷ h) o = last-number coder gone runs [] v h o
last-number coder gone runs [] v (End ∷ h) o = last-number coder gone runs [] v h o
last-number coder gone runs [] v (Cut ∷ h) o = last-number coder gone runs [] v h o
last-number coder gone runs (w ∷ front) v [] o = absurd o
last-number coder gone runs (w ∷ front) v (Close tick ∷ h) o = last-number coder gone runs front v h o.1
last-number coder gone runs (w ∷ front) v (Join spec ∷ h) o = last-number coder gone runs (w ∷ front) v h o
last-number coder gone runs (w ∷ front) v (Leave m ∷ h) o = last-number coder gone runs (w ∷ front) v h o
last-number coder gone runs (w ∷ front) v (Collect ∷ h) o = last-number coder gone runs (w ∷ front) v h o
last-number coder gone runs (w ∷ front) v (End ∷ h) o = last-number coder gone runs (w ∷ front) v h o
last-number coder gone runs (w ∷ front) v (Cut ∷ h) o = last-number coder gone runs (w ∷ front) v h o

pub last-closed : (coder : Coder) (gone : ℕ) (runs : List Run) (front : List Level) (v : Level) (h : Feed) → Opens coder gone runs (front ++ v ∷ []) h
    → gone < closes h
last-closed coder gone runs [] v h o = let a = last-number coder gone runs [] v h o in let b = opens-number coder gone runs v [] h o in omega arith
last-closed coder gone runs (w ∷ front) v [] o = absurd o
last-closed coder gone runs (w ∷ front) v (Close tick ∷ h) o = let ih = last-closed coder gone runs front v h o.1 in omega arith
last-closed coder gone runs (w ∷ front) v (Join spec ∷ h) o = last-closed coder gone runs (w ∷ front) v h o
last-closed coder gone runs (w ∷ front) v (Leave m ∷ h) o = last-closed coder gone runs (w ∷ front) v h o
last-closed coder gone runs (w ∷ front) v (Collect ∷ h) o = last-closed coder gone runs (w ∷ front) v h o
last-closed coder gone runs (w ∷ front) v (End ∷ h) o = last-closed coder gone runs (w ∷ front) v h o
last-closed coder gone runs (w ∷ front) v (Cut ∷ h) o = last-closed coder gone runs (w ∷ front) v h o

-- a task of the next tick to be collected is wanted by one who has passed all before
pub task-passed : (coder : Coder) → Tells coder → (gone : ℕ) (runs : List Run) (h : Feed) (x : Task) → In x (tasks coder h) → x.tick ≡ gone
    → In x (wanted coder (has_passed coder gone runs) h)
task-passed coder tells gone runs [] x i e = i
task-passed coder tells gone runs (Close tick ∷ h) x i e =
    let p = has_passed coder gone runs in
    let at = λ (q : Listener → Bool). each_once coder (map (task_of coder (closes h) tick) (filter q (listeners coder h))) in
    elim (in-append_cases x (tasks coder h) (at (λ l. true)) i) [
      | inl a ↦ in-append_left x (wanted coder p h) (at p) (task-passed coder tells gone runs h x a e)
      | inr a ↦
          let w = wants-at coder (closes h) tick (λ l. true) (listeners coder h) x a in
          let n : closes h ≡ x.tick = ap (λ y. y.tick) w.3 in
          let passes = passed-before coder gone runs w.0 (λ y t. let lt = own-early coder tells h w.0 w.1 y t in omega arith) in
          let P : Task → Type 0 = λ y. In y (at p) in
          in-append_right x (wanted coder p h) (at p) (subst P w.3 (at-wanted coder tells (closes h) tick p (listeners coder h) w.0 w.1 passes))
    ]
task-passed coder tells gone runs (Join spec ∷ h) x i e = task-passed coder tells gone runs h x i e
task-passed coder tells gone runs (Leave m ∷ h) x i e = task-passed coder tells gone runs h x i e
task-passed coder tells gone runs (Collect ∷ h) x i e = task-passed coder tells gone runs h x i e
task-passed coder tells gone runs (End ∷ h) x i e = task-passed coder tells gone runs h x i e
task-passed coder tells gone runs (Cut ∷ h) x i e = task-passed coder tells gone runs h x i e

-- the next tick is over just where all its rows are finished
pub over-rows : (coder : Coder) → Tells coder → (c : Core) (front : List Level) (v : Level) → Kept coder c
    → Opens coder (collects c.feed) c.runs (front ++ v ∷ []) c.feed
    → SameRuns c.runs (all_runs (front ++ v ∷ [])) → LevelsOnce (front ++ v ∷ []) → is_over coder c.runs c.feed (collects c.feed) ≡ all_finished v.rows
over-rows coder tells c front v k o same once =
    let h = c.feed in
    let gone = collects h in
    let at = last-number coder gone c.runs front v h o in
    let tell = level-tells coder tells gone c.runs c.runs front [] v h o same (once-last front v once) (omega arith) in
    let fins = finished_tasks c.runs in
    let test = λ (x : Task). not (x.tick == gone) || has coder fins x in
    elim (cases_Bool (all_finished v.rows)) [
      | inl t ↦
          in-all test (tasks coder h) (λ x i.
          elim (cases_Bool (x.tick == gone)) [
            | inl e ↦
                let n = eqb-true x.tick gone e in
                let run = all-run coder tells c k x (task-passed coder tells gone c.runs h x i n) (omega arith) in
                let row = in-map_cases (λ r. record { tick = v.number; triple = r.triple }) x v.rows
                (has-in coder tells (row_tasks v.number v.rows) x (sym (tell.1.has x (n ∙ sym at)) ∙ run)) in
                let fin = all-in (λ r. is_finished r.stage) row.0 v.rows t row.1 in
                or_right (not (x.tick == gone)) (has coder fins x)
                (let P : Task → Type 0 = λ y. has coder fins y ≡ true in
                subst P row.2 (elim (done-cases coder tells gone c.runs (record { tick = v.number; triple = row.0.triple }) (tell.0.done row.0 row.1 ∙ fin)) [
                  | inl lt ↦ absurd (omega arith)
                  | inr f ↦ in-has coder tells fins (record { tick = v.number; triple = row.0.triple }) f
                ]))
            | inr e ↦ or_left (not (x.tick == gone)) (has coder fins x) (not_from_false (x.tick == gone) e)
          ])
          ∙ sym t
      | inr t ↦
          elim (cases_Bool (is_over coder c.runs h gone)) [
            | inl u ↦
                absurd (false≢true (sym t ∙ in-all (λ r. is_finished r.stage) v.rows (λ r i.
                let run = run_of v.number r in
                let ir = (same run).1 (level-all' front v run (in-map (run_of v.number) r v.rows i)) in
                let want = run-wanted coder tells c k.carried run.task (in-map (λ q. q.task) run c.runs ir) in
                let f = over-finished coder tells c.runs h gone u run.task want at in
                sym (tell.0.done r i) ∙ done-finished coder tells gone c.runs run.task f)))
            | inr u ↦ u ∙ sym t
          ]
    ]
  where
    once-last : (front : List Level) (v : Level) → LevelsOnce (front ++ v ∷ []) → Once (triples_of v.rows)
    once-last [] v o = o.0
    once-last (w ∷ front) v o = once-last front v o.1

    level-all' : (front : List Level) (v : Level) (r : Run) → In r (level_runs v) → In r (all_runs (front ++ v ∷ []))
    level-all' [] v r i = in-append_right r [] (level_runs v) i
    level-all' (w ∷ front) v r i = in-append_left r (all_runs (front ++ v ∷ [])) (level_runs w) (level-all' front v r i)

abbrev pub other_runs : ℕ → List Run → List Run
other_runs gone runs = filter (λ r. not (r.task.tick == gone)) runs

-- what is done of the feed's tasks stays done, and nothing else is
pub done-collected_same : (coder : Coder) → Tells coder → (gone : ℕ) (runs : List Run) (h : Feed) → is_over coder runs h gone ≡ true → (x : Task)
    → In x (tasks coder h)
    → is_done coder (gone + 1) (other_runs gone runs) x ≡ is_done coder gone runs x
done-collected_same coder tells gone runs h over x i =
    let kept = other_runs gone runs in
    let other = λ (r : Run). not (r.task.tick == gone) in
    elim (cases_Bool (is_done coder gone runs x)) [
      | inl t ↦
          elim (done-cases coder tells gone runs x t) [
            | inl lt ↦ done-collected coder (gone + 1) kept x (omega arith)
            | inr f ↦ elim (cases_Bool (x.tick == gone)) [
              | inl e ↦ done-collected coder (gone + 1) kept x (let n = eqb-true x.tick gone e in omega arith)
              | inr e ↦
                  let g = finished-run runs x f in
                  let ne = eqb-false x.tick gone e in
                  let at : g.0.task.tick ≡ x.tick = ap (λ y. y.tick) g.3 in
                  let P : Task → Type 0 = λ y. In y (finished_tasks kept) in
                  done-finished coder tells (gone + 1) kept x
                  (subst P g.3 (run-finished kept g.0
                  (in-filter other g.0 runs g.1 (not_from_false (g.0.task.tick == gone) (ne_eqb g.0.task.tick gone (λ q. ne (sym at ∙ q))))) g.2))
            ]
          ]
          ∙ sym t
      | inr t ↦
          elim (cases_Bool (is_done coder (gone + 1) kept x)) [
            | inl u ↦ absurd (both_ways (is_done coder gone runs x) t
                (elim (done-cases coder tells (gone + 1) kept x u) [
                  | inl lt ↦ elim (cases_Bool (x.tick == gone)) [
                    | inl e ↦ done-finished coder tells gone runs x (over-finished coder tells runs h gone over x i (eqb-true x.tick gone e))
                    | inr e ↦ (let ne = eqb-false x.tick gone e in done-collected coder gone runs x (omega arith))
                  ]
                  | inr f ↦
                      let g = finished-run kept x f in
                      let P : Task → Type 0 = λ y. In y (finished_tasks runs) in
                      done-finished coder tells gone runs x (subst P g.3 (run-finished runs g.0 (in-filter_parts other g.0 runs g.1).0 g.2))
                ]))
            | inr u ↦ u ∙ sym t
          ]
    ]

-- the levels that stay open
pub opens-collected : (coder : Coder) → Tells coder → (gone : ℕ) (runs : List Run) (front : List Level) (v : Level) (h : Feed)
    → ((x : Task) → In x (tasks coder h) → is_done coder (gone + 1) (other_runs gone runs) x ≡ is_done coder gone runs x)
    → Opens coder gone runs (front ++ v ∷ []) h → Opens coder (gone + 1) (other_runs gone runs) front h
opens-collected coder tells gone runs [] v [] same o = absurd o
opens-collected coder tells gone runs [] v (Close tick ∷ h) same o = let a = o.1 in omega arith
opens-collected coder tells gone runs [] v (Join spec ∷ h) same o = opens-collected coder tells gone runs [] v h same o
opens-collected coder tells gone runs [] v (Leave m ∷ h) same o = opens-collected coder tells gone runs [] v h same o
opens-collected coder tells gone runs [] v (Collect ∷ h) same o = opens-collected coder tells gone runs [] v h same o
opens-collected coder tells gone runs [] v (End ∷ h) same o = opens-collected coder tells gone runs [] v h same o
opens-collected coder tells gone runs [] v (Cut ∷ h) same o = opens-collected coder tells gone runs [] v h same o
opens-collected coder tells gone runs (w ∷ front) v [] same o = absurd o
opens-collected coder tells gone runs (w ∷ front) v (Close tick ∷ h) same o =
    let kept = other_runs gone runs in
    let here = each_once coder (map (task_of coder (closes h) tick) (filter (λ l. true) (listeners coder h))) in
    let same' : (x : Task) → In x (tasks coder h) → is_done coder (gone + 1) kept x ≡ is_done coder gone runs x =
    λ x i. same x (in-append_left x (tasks coder h) here i) in
    let late = last-closed coder gone runs front v h o.1 in
    let sits : (s : Seat) (l : Listener) → In l (listeners coder h) → Sits coder gone runs w.rows (closes h) tick h s l
    → Sits coder (gone + 1) kept w.rows (closes h) tick h s l = λ s l i z.
    let e : has_passed coder (gone + 1) kept l ≡ has_passed coder gone runs l =
    list-all-agree (is_done coder (gone + 1) kept) (is_done coder gone runs) (tasks_of coder l) (λ x t. same' x (own-wanted coder tells h l i x t)) in
    let later : (og : Option ℕ) → CameFrom coder gone h og l → CameFrom coder (gone + 1) h og l =
    elim [ None ↦ λ q. λ x t. (let lt = q x t in omega arith) | Some j ↦ λ q. q ] in
    let K : Bool → Type 0 = λ b. Knows b s.run w.rows (task_of coder (closes h) tick l).triple in
    record { spec = z.spec; heard = z.heard; run = subst K (sym e) z.run; came = later s.earlier z.came } in (
      record {
        open' = omega arith;
        number = o.0.number;
        talkers = o.0.talkers;
        seats = zip-map (Sits coder gone runs w.rows (closes h) tick h) (Sits coder (gone + 1) kept w.rows (closes h) tick h)
            w.seats (listeners coder h) sits o.0.seats;
      },
      opens-collected coder tells gone runs front v h same' o.1,
    )
opens-collected coder tells gone runs (w ∷ front) v (Join spec ∷ h) same o = opens-collected coder tells gone runs (w ∷ front) v h same o
opens-collected coder tells gone runs (w ∷ front) v (Leave m ∷ h) same o = opens-collected coder tells gone runs (w ∷ front) v h same o
opens-collected coder tells gone runs (w ∷ front) v (Collect ∷ h) same o = opens-collected coder tells gone runs (w ∷ front) v h same o
opens-collected coder tells gone runs (w ∷ front) v (End ∷ h) same o = opens-collected coder tells gone runs (w ∷ front) v h same o
opens-collected coder tells gone runs (w ∷ front) v (Cut ∷ h) same o = opens-collected coder tells gone runs (w ∷ front) v h same o

-- Collect is no close and no join: what stands before it stands after it
pub opens-after_collect : (coder : Coder) (gone : ℕ) (runs : List Run) (vs : List Level) (h : Feed) → Opens coder gone runs vs h
    → Opens coder gone runs vs (Collect ∷ h)
opens-after_collect coder gone runs [] h o = o
opens-after_collect coder gone runs (v ∷ vs) h o = o

pub in-last : (front : List Level) (v : Level) (r : Run) → In r (all_runs (front ++ v ∷ [])) → In r (level_runs v) ⊎ In r (all_runs front)
in-last [] v r i = inl i
in-last (w ∷ front) v r i =
    elim (in-append_cases r (all_runs (front ++ v ∷ [])) (level_runs w) i) [
      | inl a ↦ elim (in-last front v r a) [ inl b ↦ inl b | inr b ↦ inr (in-append_left r (all_runs front) (level_runs w) b) ]
      | inr a ↦ inr (in-append_right r (all_runs front) (level_runs w) a)
    ]

pub last-in : (front : List Level) (v : Level) (r : Run) → In r (all_runs front) → In r (all_runs (front ++ v ∷ []))
last-in [] v r i = absurd i
last-in (w ∷ front) v r i =
    elim (in-append_cases r (all_runs front) (level_runs w) i) [
      | inl a ↦ in-append_left r (all_runs (front ++ v ∷ [])) (level_runs w) (last-in front v r a)
      | inr a ↦ in-append_right r (all_runs (front ++ v ∷ [])) (level_runs w) a
    ]

-- what a collect leaves of runs and tickets
pub collect-carries : (coder : Coder) → Tells coder → (c : Core) (front : List Level) (v : Level) (rests rests' : List Rest) (queue : List Ticket) (issued : ℕ)
    → Kept coder c → Carries coder (front ++ v ∷ []) rests queue issued c → is_over coder c.runs c.feed (collects c.feed) ≡ true
    → AllZip (Rests coder (collects c.feed + 1) (Collect ∷ c.feed)) rests' (listeners coder c.feed)
    → Carries coder front rests' queue issued (entered coder c Collect)
collect-carries coder tells c front v rests rests' queue issued k car over present =
    let h = c.feed in
    let gone = collects h in
    let kept = other_runs gone c.runs in
    let other = λ (r : Run). not (r.task.tick == gone) in
    let o' = opens-collected coder tells gone c.runs front v h (done-collected_same coder tells gone c.runs h over) car.opens in
    let at = last-number coder gone c.runs front v h car.opens in
    let fin = sym (over-rows coder tells c front v k car.opens car.runs car.once) ∙ over in
    record {
      opens = opens-after_collect coder (gone + 1) kept front h o';
      present = present;
      runs = λ r. (
        (λ i.
            let f = in-filter_parts other r c.runs i in
            elim (in-last front v r ((car.runs r).0 f.0)) [
              | inl a ↦
                  let m = in-map_cases (run_of v.number) r v.rows a in
                  let n : v.number ≡ r.task.tick = ap (λ q. q.task.tick) m.2 in
                  absurd (both_ways (other r) (not_from_true (r.task.tick == gone) (eq-eqb r.task.tick gone (sym n ∙ at))) f.1)
              | inr a ↦ a
            ]),
        (λ i.
            let late = (run-below coder (gone + 1) kept front h o' r i).1 in
            in-filter other r c.runs ((car.runs r).1 (last-in front v r i))
            (not_from_false (r.task.tick == gone) (ne_eqb r.task.tick gone (λ e. omega arith)))),
      );
      once = once-front front v car.once;
      queue = record {
        rise = car.queue.rise;
        each = λ t i. ticket-front front v t fin (car.queue.each t i);
        all = λ r i w. car.queue.all r (in-filter_parts other r c.runs i).0 w;
      };
      issued_is = car.issued_is;
    }
  where
    once-front : (front : List Level) (v : Level) → LevelsOnce (front ++ v ∷ []) → LevelsOnce front
    once-front [] v o = tt
    once-front (w ∷ front) v o = (o.0, once-front front v o.1)

    ticket-front : (front : List Level) (v : Level) (t : Ticket) → all_finished v.rows ≡ true → IsTicket (front ++ v ∷ []) t → IsTicket front t
    ticket-front [] v t fin (inl ht) =
        absurd (false≢true (sym (ap is_finished ht.waiting)
        ∙ all-in (λ r. is_finished r.stage) ht.row v.rows fin (get-in v.rows t.at ht.row ht.there)))
    ticket-front [] v t fin (inr z) = z
    ticket-front (w ∷ front) v t fin (inl ht) = inl ht
    ticket-front (w ∷ front) v t fin (inr z) = inr (ticket-front front v t fin z)

-- the present listeners, where other ticks stay open
pub rests-open : (coder : Coder) (gone : ℕ) (h : Feed) (rests : List Rest) (ls : List Listener) → gone + 1 < closes h
    → AllZip (Rests coder gone h) rests ls → AllZip (Rests coder (gone + 1) (Collect ∷ h)) rests ls
rests-open coder gone h rests ls lt z =
    zip-map (Rests coder gone h) (Rests coder (gone + 1) (Collect ∷ h)) rests ls
    (λ r l i x.
    let by : (og : Origin) → OriginIs coder gone h og l → OriginIs coder (gone + 1) (Collect ∷ h) og l = elim [
      | Known s ↦ λ q. ((λ y t. let le = q.0 y t in omega arith), q.1)
      | Earlier j ↦ λ q. (q.0, lt)
    ] in
    record { spec = x.spec; heard = x.heard; origin = by r.origin x.origin })
    z

-- where the only open tick is over, each present listener's state is what its seat's run left
pub settle-ready : (coder : Coder) → Tells coder → (c : Core) (v : Level) → Kept coder c → Opens coder (collects c.feed) c.runs (v ∷ []) c.feed
    → SameRuns c.runs (all_runs (v ∷ [])) → LevelsOnce (v ∷ [])
    → is_over coder c.runs c.feed (collects c.feed) ≡ true → (l : Listener) → In l (listeners coder c.feed) → (i : ℕ) → IsNewest coder c.feed i l
    → state_at coder v i ≡ Some (state_of coder l)
settle-ready coder tells c v k o same once over l il i nw =
    let h = c.feed in
    let gone = collects h in
    let tell = level-tells coder tells gone c.runs c.runs [] [] v h o same once.0 (let at = last-number coder gone c.runs [] v h o in omega arith) in
    let n = opens-number coder gone c.runs v [] h o in
    let at = last-number coder gone c.runs [] v h o in
    let passed : has_passed coder gone c.runs l ≡ true = in-all (is_done coder gone c.runs) (tasks_of coder l) (λ x t.
    let lt = own-early coder tells h l il x t in
    elim (cases_Bool (x.tick == gone)) [
      | inl e ↦
          done-finished coder tells gone c.runs x
          (over-finished coder tells c.runs h gone over x (own-wanted coder tells h l il x t) (eqb-true x.tick gone e))
      | inr e ↦ (let ne = eqb-false x.tick gone e in done-collected coder gone c.runs x (omega arith))
    ]) in
    state-newest coder gone c.runs v [] h tell.0 o i l nw ∙ ap (λ b. known_if b (state_of coder l)) passed

pub rests-settled : (coder : Coder) → Tells coder → (c : Core) (v : Level) (rests rests' : List Rest) → Kept coder c
    → Opens coder (collects c.feed) c.runs (v ∷ []) c.feed → SameRuns c.runs (all_runs (v ∷ [])) → LevelsOnce (v ∷ [])
    → is_over coder c.runs c.feed (collects c.feed) ≡ true → AllZip (Rests coder (collects c.feed) c.feed) rests (listeners coder c.feed)
    → AllZip (Settles coder v) rests rests'
    → AllZip (Rests coder (collects c.feed + 1) (Collect ∷ c.feed)) rests' (listeners coder c.feed)
rests-settled coder tells c v rests rests' k o same once over z st =
    let h = c.feed in
    let gone = collects h in
    let n = opens-number coder gone c.runs v [] h o in
    let at = last-number coder gone c.runs [] v h o in
    zip-over (Settles coder v) (Rests coder gone h) (Rests coder (gone + 1) (Collect ∷ h)) rests rests' (listeners coder h)
    (λ r r' l i s x.
    let by : (og og' : Origin) → OriginIs coder gone h og l → settled coder v og og' → OriginIs coder (gone + 1) (Collect ∷ h) og' l = elim [
      | Known q ↦ λ og' is e.
          let P : Origin → Type 0 = λ o. OriginIs coder (gone + 1) (Collect ∷ h) o l in
          subst P (sym e) ((λ y t. let le = is.0 y t in omega arith), is.1)
      | Earlier j ↦ λ og' is e.
          let ready = settle-ready coder tells c v k o same once over l i j is.0 in
          let both : Some e.0 ≡ Some (state_of coder l) = sym e.1 ∙ ready in
          let one : e.0 ≡ state_of coder l = cc in
          let P : Origin → Type 0 = λ o. OriginIs coder (gone + 1) (Collect ∷ h) o l in
          subst P (sym e.2) ((λ y t. let lt = own-early coder tells h l i y t in omega arith), one)
    ] in
    record { spec = s.spec ∙ x.spec; heard = s.heard ∙ x.heard; origin = by r.origin r'.origin x.origin s.origin })
    st z
  where
    zip-over : {A A' B : Type 0} (T : A → A' → Type 0) (R : A → B → Type 0) (S : A' → B → Type 0) (xs : List A) (xs' : List A') (ys : List B)
        → ((x : A) (x' : A') (y : B) → In y ys → T x x' → R x y → S x' y) → AllZip T xs xs' → AllZip R xs ys → AllZip S xs' ys
    zip-over T R S [] [] [] f t r = tt
    zip-over T R S [] [] (y ∷ ys) f t r = absurd r
    zip-over T R S [] (x' ∷ xs') ys f t r = absurd t
    zip-over T R S (x ∷ xs) [] ys f t r = absurd t
    zip-over T R S (x ∷ xs) (x' ∷ xs') [] f t r = absurd r
    zip-over T R S (x ∷ xs) (x' ∷ xs') (y ∷ ys) f t r = (f x x' y (inl refl) t.0 r.0, zip-over T R S xs xs' ys (λ a a' b i. f a a' b (inr i)) t.1 r.1)

-- ---- the oldest open tick ----

-- the close that the oldest open tick stands for
pub record Oldest (coder : Coder) (gone : ℕ) (runs : List Run) (v : Level) (h : Feed) : Type 0 where
  pub tick : Tick
  pub feed : Feed
  pub talkers_is : talkers gone h ≡ Some tick
  pub before_is : before gone h ≡ feed
  pub level : IsLevel coder gone runs v tick feed
  pub at : closes feed ≡ gone

-- an entry that changes nothing of the tick
oldest-stays : (coder : Coder) (gone : ℕ) (runs : List Run) (v : Level) (h h' : Feed) → talkers gone h' ≡ talkers gone h → before gone h' ≡ before gone h
    → Oldest coder gone runs v h → Oldest coder gone runs v h'
oldest-stays coder gone runs v h h' t b o = record {
  tick = o.tick;
  feed = o.feed;
  talkers_is = t ∙ o.talkers_is;
  before_is = b ∙ o.before_is;
  level = o.level;
  at = o.at;
}

pub oldest : (coder : Coder) (gone : ℕ) (runs : List Run) (front : List Level) (v : Level) (h : Feed) → Opens coder gone runs (front ++ v ∷ []) h
    → Oldest coder gone runs v h
oldest coder gone runs [] v [] o = absurd o
oldest coder gone runs [] v (Close tick ∷ h) o =
    let e : closes h ≡ gone = (let a = o.0.open' in let b = o.1 in omega arith) in
    record {
      tick = tick;
      feed = h;
      talkers_is = cond-true (closes h == gone) (Some tick) (talkers gone h) (eq-eqb (closes h) gone e);
      before_is = cond-true (closes h == gone) h (before gone h) (eq-eqb (closes h) gone e);
      level = o.0;
      at = e;
    }
oldest coder gone runs (w ∷ front) v [] o = absurd o
oldest coder gone runs (w ∷ front) v (Close tick ∷ h) o =
    let lt = last-closed coder gone runs front v h o.1 in
    let ih = oldest coder gone runs front v h o.1 in
    let ne = ne_eqb (closes h) gone (λ e. omega arith) in
    oldest-stays coder gone runs v h (Close tick ∷ h) (cond-false (closes h == gone) (Some tick) (talkers gone h) ne)
    (cond-false (closes h == gone) h (before gone h) ne) ih
oldest coder gone runs [] v (Join spec ∷ h) o = oldest-stays coder gone runs v h (Join spec ∷ h) refl refl (oldest coder gone runs [] v h o)
oldest coder gone runs [] v (Leave m ∷ h) o = oldest-stays coder gone runs v h (Leave m ∷ h) refl refl (oldest coder gone runs [] v h o)
oldest coder gone runs [] v (Collect ∷ h) o = oldest-stays coder gone runs v h (Collect ∷ h) refl refl (oldest coder gone runs [] v h o)
oldest coder gone runs [] v (End ∷ h) o = oldest-stays coder gone runs v h (End ∷ h) refl refl (oldest coder gone runs [] v h o)
oldest coder gone runs [] v (Cut ∷ h) o = oldest-stays coder gone runs v h (Cut ∷ h) refl refl (oldest coder gone runs [] v h o)
oldest coder gone runs (w ∷ front) v (Join spec ∷ h) o = oldest-stays coder gone runs v h (Join spec ∷ h) refl refl (oldest coder gone runs (w ∷ front) v h o)
oldest coder gone runs (w ∷ front) v (Leave m ∷ h) o = oldest-stays coder gone runs v h (Leave m ∷ h) refl refl (oldest coder gone runs (w ∷ front) v h o)
oldest coder gone runs (w ∷ front) v (Collect ∷ h) o = oldest-stays coder gone runs v h (Collect ∷ h) refl refl (oldest coder gone runs (w ∷ front) v h o)
oldest coder gone runs (w ∷ front) v (End ∷ h) o = oldest-stays coder gone runs v h (End ∷ h) refl refl (oldest coder gone runs (w ∷ front) v h o)
oldest coder gone runs (w ∷ front) v (Cut ∷ h) o = oldest-stays coder gone runs v h (Cut ∷ h) refl refl (oldest coder gone runs (w ∷ front) v h o)

-- who has a seat at a tick that is over has a run there
pub seats-run : (coder : Coder) (gone : ℕ) (runs : List Run) (v : Level) (tick : Tick) (h : Feed) → Tells coder → closes h ≡ gone
    → IsLevel coder gone runs v tick h
    → AllZip (λ s l. Knows true s.run v.rows (task_of coder (closes h) tick l).triple) v.seats (listeners coder h)
seats-run coder gone runs v tick h tells e lv =
    zip-map (Sits coder gone runs v.rows (closes h) tick h) (λ s l. Knows true s.run v.rows (task_of coder (closes h) tick l).triple)
    v.seats (listeners coder h)
    (λ s l i z.
    let passed = passed-before coder gone runs l (λ x t. let lt = own-early coder tells h l i x t in omega arith) in
    let P : Bool → Type 0 = λ b. Knows b s.run v.rows (task_of coder (closes h) tick l).triple in subst P passed z.run)
    lv.seats

-- where another tick is open behind the oldest, one more was closed
pub later-closed : (coder : Coder) (gone : ℕ) (runs : List Run) (w : Level) (front : List Level) (v : Level) (h : Feed)
    → Opens coder gone runs (w ∷ front ++ v ∷ []) h → gone + 1 < closes h
later-closed coder gone runs w front v [] o = absurd o
later-closed coder gone runs w front v (Close tick ∷ h) o = let ih = last-closed coder gone runs front v h o.1 in omega arith
later-closed coder gone runs w front v (Join spec ∷ h) o = later-closed coder gone runs w front v h o
later-closed coder gone runs w front v (Leave m ∷ h) o = later-closed coder gone runs w front v h o
later-closed coder gone runs w front v (Collect ∷ h) o = later-closed coder gone runs w front v h o
later-closed coder gone runs w front v (End ∷ h) o = later-closed coder gone runs w front v h o
later-closed coder gone runs w front v (Cut ∷ h) o = later-closed coder gone runs w front v h o
