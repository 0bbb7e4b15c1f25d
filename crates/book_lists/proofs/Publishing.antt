-- A publication, whole.
use Rattle.std.proofs.Common.{◌≡◌, ℕ, ◌+◌, ◌≤◌, ◌⊎◌, inl, inr, Bool, true, false, ◌||◌, List, [], ◌∷◌, ◌++◌, length, map, refl, sym, ◌∙◌, ap, subst, arith, Some}
use Rattle.std.specs.Prelude.{◌==◌, nat_lt, slice_get}
use Rattle.std.specs.List.{list_all}
use Rattle.std.proofs.lemmas.Bool.{cases_Bool, cond-false, both_ways, false≢true}
use Rattle.triple_table.specs.Rows.{Row}
use Rattle.conference_spec.specs.declared.Task.{Task}
use Rattle.conference_spec.specs.declared.Stage.TheVariants.{Waiting, Out, Finished}
use Rattle.conference_spec.specs.Coding.{Coder, Tells}
use Rattle.conference_spec.specs.Feed.{Feed, Listener}
use Rattle.conference_spec.specs.Tasks.{tasks_of}
use Rattle.conference_spec.specs.Machine.{Run, is_finished, is_done, has_passed, has, run_tasks, finished_tasks, numbered}
use Rattle.conference_spec.specs.Members.{In}
use Rattle.conference_spec.proofs.Members.{in-append_left, in-append_right, in-append_cases, in-map, in-map_cases, all-in, in-all}
use Rattle.conference_spec.proofs.Stages.{in-has, done-cases, done-finished}
use Rattle.book_lists.specs.Levels.{Level, run_of, level_runs, all_runs, Opens, LevelsOnce, Sweeps}
use Rattle.book_lists.proofs.Seating.{get-in}
use Rattle.book_lists.proofs.Sweeping.{news, LevelsTell, Changes, AllRun}
use Rattle.conference_spec.specs.declared.Stage.{Stage}
use Rattle.conference_spec.specs.Feed.{collects}
use Rattle.conference_spec.specs.Machine.{Core, moved, waits, with_stage}
use Rattle.conference_spec.proofs.Stages.{Rise, unique, moved-task, tasks-moved, finished-run, run-finished, finished-grows, finished-more, done-collected}
use Rattle.std.proofs.lemmas.Bool.{eqb-true}
use Rattle.std.proofs.Common.{set}
use Rattle.book_lists.specs.declared.seats.Ticket.{Ticket}
use Rattle.triple_table.specs.Rows.{staged}
use Rattle.book_lists.specs.Levels.{with_rows}
use Rattle.book_lists.specs.Levels.{SameRuns, IsQueue, new_tickets}
use Rattle.book_lists.proofs.Swept.{EndsAt, SweepTold, sweep-told}
use Rattle.book_lists.proofs.Carrying.{moved-other, moved-same}
use Rattle.conference_spec.specs.Machine.{with_reached, is_out}
use Rattle.conference_spec.specs.Members.{Kept}
use Rattle.conference_spec.proofs.Stages.{in-reached}
use Rattle.book_lists.specs.Levels.{Carries}
use Rattle.book_lists.specs.declared.seats.Rest.{Rest}
use Rattle.book_lists.proofs.Carrying.{levels-tell_from, same-moved, opens-staged, once-staged, opens-alike}
use Rattle.book_lists.proofs.Queues.{queue-grown, ticket-run, ticket-staged}

-- a published run changes the runs only at its tick
pub changes-published : (coder : Coder) → Tells coder → (gone high : ℕ) (runs : List Run) (run : Run) → Rise 0 high runs → In run runs
    → Changes coder gone run.task.tick runs (map (moved run.number Finished) runs)
changes-published coder tells gone high runs run rise there =
    let runs' : List Run = map (moved run.number Finished) runs in
    let old : (x : Task) → In x (finished_tasks runs') → (x.tick ≡ run.task.tick → ⊥) → In x (finished_tasks runs) = λ x i ne.
    let f = finished-run runs' x i in
    let m = in-map_cases (moved run.number Finished) f.0 runs f.1 in
    let same_task : m.0.task ≡ x = sym (moved-task run.number Finished m.0) ∙ ap (λ q. q.task) m.2 ∙ f.3 in
    let other : m.0.number ≡ run.number → ⊥ = λ e.
    let one = unique 0 high runs rise m.0 run m.1 there e in
    ne (sym (ap (λ q. q.tick) same_task) ∙ ap (λ q. q.task.tick) one) in
    let is : m.0 ≡ f.0 = sym (moved-other run.number Finished m.0 other) ∙ m.2 in
    let P : Task → Type 0 = λ y. In y (finished_tasks runs) in
    subst P same_task (run-finished runs m.0 m.1 (ap (λ q. is_finished q.stage) is ∙ f.2)) in
    let more : (x : Task) → is_done coder gone runs x ≡ true → is_done coder gone runs' x ≡ true = λ x d.
    elim (done-cases coder tells gone runs x d) [
      | inl a ↦ done-collected coder gone runs' x a
      | inr b ↦ done-finished coder tells gone runs' x (finished-grows run.number runs x b)
    ] in
    record {
      more = λ l t. in-all (is_done coder gone runs') (tasks_of coder l) (λ x i. more x (all-in (is_done coder gone runs) x (tasks_of coder l) t i));
      only = λ x ne.
          elim (cases_Bool (is_done coder gone runs x)) [
            | inl t ↦ more x t ∙ sym t
            | inr t ↦ elim (cases_Bool (is_done coder gone runs' x)) [
              | inl u ↦ elim (done-cases coder tells gone runs' x u) [
                | inl a ↦ absurd (both_ways (is_done coder gone runs x) t (done-collected coder gone runs x a))
                | inr b ↦ absurd (both_ways (is_done coder gone runs x) t (done-finished coder tells gone runs x (old x b ne)))
              ]
              | inr u ↦ u ∙ sym t
            ]
          ];
      same = λ x. ap (λ ts. has coder ts x) (tasks-moved run.number Finished runs);
    }

-- what is kept: each wanted task that isn't collected has its run
pub all-run : (coder : Coder) → Tells coder → (c : Core) → Kept coder c → AllRun coder (collects c.feed) c.runs c.feed
all-run coder tells c k x w le = in-has coder tells (run_tasks c.runs) x (k.all_numbered x (in-reached coder c.runs c.feed x w le))

-- numbering leaves who has passed
pub passed-numbered : (coder : Coder) (gone : ℕ) (runs : List Run) (n : ℕ) (xs : List Task) (l : Listener)
    → has_passed coder gone (runs ++ numbered n xs) l ≡ has_passed coder gone runs l
passed-numbered coder gone runs n xs l = ap (λ ts. list_all (λ x. nat_lt x.tick gone || has coder ts x) (tasks_of coder l)) (finished-more runs n xs)

-- the queue where a run that didn't wait changes its stage to one that doesn't wait
pub queue-passed : (coder : Coder) (gone high : ℕ) (some : List Run) (newer vs : List Level) (v : Level) (h : Feed) (at : ℕ) (r : Row) (stage : Stage) (queue : List Ticket) (runs : List Run)
    → slice_get v.rows at ≡ Some r → waits r.stage ≡ false → waits stage ≡ false → IsQueue queue (newer ++ v ∷ vs) runs
    → IsQueue queue (newer ++ with_rows v (set v.rows at (staged r stage)) ∷ vs) (map (moved r.number stage) runs)
queue-passed coder gone high some newer vs v h at r stage queue runs there was is q = record {
  rise = q.rise;
  each = λ t i. ticket-staged newer vs v at r stage t there
      (λ ht e.
      let both : Some ht.row ≡ Some r = sym ht.there ∙ ap (slice_get v.rows) e ∙ there in
      let one : ht.row ≡ r = cc in
      both_ways (waits r.stage) was (ap (λ x. waits x.stage) (sym one) ∙ ap waits ht.waiting))
      (q.each t i);
  all = λ x i w.
      let m = in-map_cases (moved r.number stage) x runs i in
      let N : ℕ → Type 0 = λ j. In j (map (λ t. t.number) queue) in
      elim (cases_Bool (m.0.number == r.number)) [
        | inl e ↦
            let to = moved-same r.number stage m.0 (eqb-true m.0.number r.number e) in
            absurd (both_ways (waits x.stage) (ap (λ y. waits y.stage) (sym m.2 ∙ to) ∙ is) w)
        | inr e ↦
            let to : m.0 ≡ x = sym (cond-false (m.0.number == r.number) (record { number = m.0.number; task = m.0.task; stage = stage }) m.0 e) ∙ m.2 in
            subst N (ap (λ y. y.number) to) (q.all m.0 m.1 (ap (λ y. waits y.stage) to ∙ w))
      ];
}

-- no ticket's number is above what was issued
pub queue-below : (coder : Coder) (c : Core) (vs : List Level) (queue : List Ticket) → Kept coder c → SameRuns c.runs (all_runs vs)
    → IsQueue queue vs c.runs → (t : Ticket) → In t queue → t.number ≤ c.issued
queue-below coder c vs queue k same q t i =
    let r = ticket-run vs t (q.each t i) in
    let in_runs = (same r.0).1 r.1 in
    let high = rise-high 0 c.issued c.runs k.carried.numbers r.0 in_runs in
    let e = r.2 in
    omega arith
  where
    above : (low high : ℕ) (rs : List Run) → Rise low high rs → low ≤ high
    above low high [] h = h
    above low high (r ∷ rs) h = let a = h.0 in let b = above r.number high rs h.1 in omega arith

    rise-high : (low high : ℕ) (rs : List Run) → Rise low high rs → (r : Run) → In r rs → r.number ≤ high
    rise-high low high [] h r i = absurd i
    rise-high low high (s ∷ rs) h r (inl e) = let P : Run → Type 0 = λ q. q.number ≤ high in subst P e (above s.number high rs h.1)
    rise-high low high (s ∷ rs) h r (inr i) = rise-high s.number high rs h.1 r i

-- the runs after numbering
pub same-grown : (runs : List Run) (old new : List Level) (more : List Run) → SameRuns runs (all_runs old)
    → ((r : Run) → In r (all_runs new) → In r (all_runs old) ⊎ In r more) → ((r : Run) → In r (all_runs old) ⊎ In r more → In r (all_runs new))
    → SameRuns (runs ++ more) (all_runs new)
same-grown runs old new more same grown kept r = (
  (λ i. elim (in-append_cases r runs more i) [ inl a ↦ kept r (inl ((same r).0 a)) | inr a ↦ kept r (inr a) ]),
  (λ i. elim (grown r i) [ inl a ↦ in-append_left r runs more ((same r).1 a) | inr a ↦ in-append_right r runs more a ]),
)

-- a publication carries the core's step
pub publish-carries : (coder : Coder) → Tells coder → (c : Core) (newer vs : List Level) (v : Level) (rests : List Rest) (queue : List Ticket) (issued : ℕ)
    (at : ℕ) (r : Row) (new : List Level) (n' : ℕ) (did : Bool)
    → Kept coder c → Carries coder (newer ++ v ∷ vs) rests queue issued c → slice_get v.rows at ≡ Some r → is_out r.stage ≡ true
    → Sweeps coder (newer ++ with_rows v (set v.rows at (staged r Finished)) ∷ []) issued new n' did
    → Carries coder (new ++ vs) rests (queue ++ new_tickets (newer ++ with_rows v (set v.rows at (staged r Finished)) ∷ vs) (new ++ vs) issued) n' (with_reached coder (with_stage c r.number Finished))
publish-carries coder tells c newer vs v rests queue issued at r new n' did k car there out sw =
    let h = c.feed in
    let gone = collects h in
    let v' = with_rows v (set v.rows at (staged r Finished)) in
    let runs1 : List Run = map (moved r.number Finished) c.runs in
    let run = run_of v.number r in
    let all = newer ++ v ∷ vs in
    let all1 = newer ++ v' ∷ vs in
    let irun : In run c.runs = (car.runs run).1 (level-all' newer vs v run (in-map (run_of v.number) r v.rows (get-in v.rows at r there))) in
    let rise = k.carried.numbers in
    let ch = changes-published coder tells gone c.issued c.runs run rise irun in
    let opens1 : Opens coder gone c.runs all1 h = opens-staged coder gone c.runs newer vs v at r Finished h there car.opens in
    let same1 : SameRuns runs1 (all_runs all1) = same-moved coder gone c.issued c.runs newer vs v h at r Finished car.opens car.once rise car.runs there in
    let once1 : LevelsOnce all1 = once-staged newer vs v at r Finished there car.once in
    let tell1 : LevelsTell coder gone runs1 all1 = levels-tell_from coder tells gone runs1 c.runs [] all1 h opens1 same1 once1 in
    let e : (newer ++ v' ∷ []) ++ vs ≡ all1 = append-assoc'' newer v' vs in
    let O : List Level → Type 0 = λ ws. Opens coder gone c.runs ws h in
    let T : List Level → Type 0 = λ ws. LevelsTell coder gone runs1 ws in
    let told0 = sweep-told coder tells gone v.number c.runs runs1 ch (newer ++ v' ∷ []) new vs issued n' did h (subst O (sym e) opens1) (subst T (sym e) tell1) (all-run coder tells c k) (ends-last newer v') sw in
    let S : List Level → Type 0 = λ ws. SweepTold coder gone c.runs runs1 ws (new ++ vs) issued n' did h in
    let told = subst S e told0 in
    let fresh_tasks = news coder gone runs1 h in
    let runs2 : List Run = runs1 ++ numbered c.issued fresh_tasks in
    let N : ℕ → Type 0 = λ n. SameRuns (runs1 ++ numbered n fresh_tasks) (all_runs (new ++ vs)) in
    let same2 : SameRuns runs2 (all_runs (new ++ vs)) = subst N car.issued_is (same-grown runs1 all1 (new ++ vs) (numbered issued fresh_tasks) same1 told.grown told.kept) in
    let q1 : IsQueue queue all1 runs1 = queue-passed coder gone c.issued c.runs newer vs v h at r Finished queue c.runs there (out-waits r.stage out) refl car.queue in
    let B : ℕ → Type 0 = λ n. (t : Ticket) → In t queue → t.number ≤ n in
    record {
      opens = opens-alike coder gone runs1 runs2 (passed-numbered coder gone runs1 c.issued fresh_tasks) (new ++ vs) h told.opens;
      present = car.present;
      runs = same2;
      once = told.once once1;
      queue = queue-grown issued n' all1 (new ++ vs) queue runs1 runs2 told.grew q1 (subst B (sym car.issued_is) (queue-below coder c all queue k car.runs car.queue)) same1 same2;
      issued_is = told.count ∙ ap (λ n. n + length fresh_tasks) car.issued_is;
    }
  where
    level-all' : (newer vs : List Level) (v : Level) (r : Run) → In r (level_runs v) → In r (all_runs (newer ++ v ∷ vs))
    level-all' [] vs v r i = in-append_right r (all_runs vs) (level_runs v) i
    level-all' (w ∷ newer) vs v r i = in-append_left r (all_runs (newer ++ v ∷ vs)) (level_runs w) (level-all' newer vs v r i)

    append-assoc'' : (a : List Level) (x : Level) (b : List Level) → (a ++ x ∷ []) ++ b ≡ a ++ x ∷ b
    append-assoc'' [] x b = refl
    append-assoc'' (y ∷ a) x b = ap (λ c. y ∷ c) (append-assoc'' a x b)

    ends-last : (newer : List Level) (v : Level) → EndsAt v.number (newer ++ v ∷ [])
    ends-last [] v = refl
    ends-last (w ∷ []) v = refl
    ends-last (w ∷ u ∷ us) v = ends-last (u ∷ us) v

    out-waits : (s : Stage) → is_out s ≡ true → waits s ≡ false
    out-waits Waiting t = absurd (false≢true t)
    out-waits Out t = refl
    out-waits Finished t = refl
