-- Runs of open ticks, and what a change of one run's stage leaves.
use Rattle.std.proofs.Common.{suc, zero, ◌≡◌, ℕ, ◌≤◌, ◌<◌, ◌⊎◌, inl, inr, Bool, true, false, List, [], ◌∷◌, ◌++◌, map, refl, sym, ◌∙◌, ap, subst, arith, Option, Some, None, append_assoc}
use Rattle.std.specs.Prelude.{◌==◌, slice_get}
use Rattle.std.proofs.lemmas.Bool.{cases_Bool, cond-true, cond-false, both_ways, eq-eqb}
use Rattle.std.proofs.lemmas.List.{map-append}
use Rattle.g726_codec.specs.declared.Triple.{Triple}
use Rattle.talk_mix.specs.declared.ticks.Tick.{Tick}
use Rattle.triple_table.specs.Rows.{Row}
use Rattle.conference_spec.specs.declared.Entry.TheVariants.{Join, Leave, Close, Collect, Cut, End}
use Rattle.conference_spec.specs.declared.Task.{Task}
use Rattle.conference_spec.specs.Coding.{Coder, Tells}
use Rattle.conference_spec.specs.Feed.{Feed, Listener, listeners, closes}
use Rattle.conference_spec.specs.Tasks.{task_of}
use Rattle.conference_spec.specs.Machine.{Run, is_finished, is_done, has_passed, has, run_tasks}
use Rattle.conference_spec.specs.Members.{In, Once}
use Rattle.conference_spec.proofs.Members.{once-append, in-append_left, in-append_right, in-append_cases, in-map, in-map_cases}
use Rattle.conference_spec.proofs.Stages.{has-in, in-has, done-cases, done-finished}
use Rattle.book_lists.specs.Levels.{Level, run_of, level_runs, all_runs, IsAt, Knows, Sits, Opens, LevelsOnce}
use Rattle.book_lists.specs.declared.seats.Seat.{Seat}
use Rattle.book_lists.proofs.Rowing.{row_tasks}
use Rattle.book_lists.proofs.Seating.{RowsTell, zip-map}
use Rattle.book_lists.proofs.Sweeping.{RowsHave, LevelsTell, level-same}
use Rattle.conference_spec.specs.declared.Stage.{Stage}
use Rattle.conference_spec.specs.Machine.{moved}
use Rattle.conference_spec.proofs.Stages.{Rise, unique, finished-run, run-finished}
use Rattle.std.proofs.lemmas.Bool.{ne_eqb}
use Rattle.std.proofs.Common.{set}
use Rattle.triple_table.specs.Rows.{staged}
use Rattle.book_lists.specs.Levels.{with_rows}
use Rattle.book_lists.specs.Levels.{SameRuns}
use Rattle.book_lists.proofs.Swept.{triples_of, opens-number}

-- every run of an open tick is of a tick before the next close
pub run-below : (coder : Coder) (gone : ℕ) (runs : List Run) (vs : List Level) (h : Feed) → Opens coder gone runs vs h → (r : Run)
    → In r (all_runs vs) → (r.task.tick < closes h) × (gone ≤ r.task.tick)
run-below coder gone runs [] h o r i = absurd i
run-below coder gone runs (v ∷ vs) [] o r i = absurd o
run-below coder gone runs (v ∷ vs) (Close tick ∷ h) o r i =
    elim (in-append_cases r (all_runs vs) (level_runs v) i) [
      | inl a ↦ let ih = run-below coder gone runs vs h o.1 r a in let lt = ih.0 in (omega arith, ih.1)
      | inr a ↦
          let m = in-map_cases (run_of v.number) r v.rows a in
          let at : v.number ≡ r.task.tick = ap (λ q. q.task.tick) m.2 in
          let n = o.0.number in
          let le = o.0.open' in
          (omega arith, omega arith)
    ]
run-below coder gone runs (v ∷ vs) (Join spec ∷ h) o r i = run-below coder gone runs (v ∷ vs) h o r i
run-below coder gone runs (v ∷ vs) (Leave m ∷ h) o r i = run-below coder gone runs (v ∷ vs) h o r i
run-below coder gone runs (v ∷ vs) (Collect ∷ h) o r i = run-below coder gone runs (v ∷ vs) h o r i
run-below coder gone runs (v ∷ vs) (End ∷ h) o r i = run-below coder gone runs (v ∷ vs) h o r i
run-below coder gone runs (v ∷ vs) (Cut ∷ h) o r i = run-below coder gone runs (v ∷ vs) h o r i

-- a level's runs are each once
pub once-level : (k : ℕ) (rows : List Row) → Once (triples_of rows) → Once (map (run_of k) rows)
once-level k [] o = tt
once-level k (r ∷ rows) o = (
  (λ i. let m = in-map_cases (run_of k) (run_of k r) rows i in
      o.0 (let P : Triple → Type 0 = λ t. In t (triples_of rows) in subst P (ap (λ q. q.task.triple) m.2) (in-map (λ q. q.triple) m.0 rows m.1))),
  once-level k rows o.1,
)

pub once-runs : (coder : Coder) (gone : ℕ) (runs : List Run) (vs : List Level) (h : Feed) → Opens coder gone runs vs h → LevelsOnce vs → Once (all_runs vs)
once-runs coder gone runs [] h o once = tt
once-runs coder gone runs (v ∷ vs) [] o once = absurd o
once-runs coder gone runs (v ∷ vs) (Close tick ∷ h) o once =
    once-append (all_runs vs) (level_runs v) (once-runs coder gone runs vs h o.1 once.1) (once-level v.number v.rows once.0)
    (λ r a b.
    let below = (run-below coder gone runs vs h o.1 r a).0 in
    let m = in-map_cases (run_of v.number) r v.rows b in
    let at : v.number ≡ r.task.tick = ap (λ q. q.task.tick) m.2 in
    let n = o.0.number in
    omega arith)
once-runs coder gone runs (v ∷ vs) (Join spec ∷ h) o once = once-runs coder gone runs (v ∷ vs) h o once
once-runs coder gone runs (v ∷ vs) (Leave m ∷ h) o once = once-runs coder gone runs (v ∷ vs) h o once
once-runs coder gone runs (v ∷ vs) (Collect ∷ h) o once = once-runs coder gone runs (v ∷ vs) h o once
once-runs coder gone runs (v ∷ vs) (End ∷ h) o once = once-runs coder gone runs (v ∷ vs) h o once
once-runs coder gone runs (v ∷ vs) (Cut ∷ h) o once = once-runs coder gone runs (v ∷ vs) h o once

-- a row with a triple is one
pub one-row : (rows : List Row) → Once (triples_of rows) → (q r : Row) → In q rows → In r rows → q.triple ≡ r.triple → q ≡ r
one-row [] o q r i j e = absurd i
one-row (s ∷ rows) o q r (inl a) (inl b) e = sym a ∙ b
one-row (s ∷ rows) o q r (inl a) (inr j) e =
    let P : Triple → Type 0 = λ t. In t (triples_of rows) in absurd (o.0 (subst P (sym (ap (λ x. x.triple) a ∙ e)) (in-map (λ x. x.triple) r rows j)))
one-row (s ∷ rows) o q r (inr i) (inl b) e =
    let P : Triple → Type 0 = λ t. In t (triples_of rows) in absurd (o.0 (subst P (e ∙ sym (ap (λ x. x.triple) b)) (in-map (λ x. x.triple) q rows i)))
one-row (s ∷ rows) o q r (inr i) (inr j) e = one-row rows o.1 q r i j e

-- a run of the levels at a level's tick is of that level
pub run-level : (coder : Coder) (gone : ℕ) (runs : List Run) (newer vs : List Level) (v : Level) (h : Feed) → Opens coder gone runs (newer ++ v ∷ vs) h
    → (r : Run) → In r (all_runs (newer ++ v ∷ vs)) → r.task.tick ≡ v.number → In r (level_runs v)
run-level coder gone runs [] vs v [] o r i e = absurd o
run-level coder gone runs [] vs v (Close tick ∷ h) o r i e =
    elim (in-append_cases r (all_runs vs) (level_runs v) i) [
      | inl a ↦ absurd (let lt = (run-below coder gone runs vs h o.1 r a).0 in let n = o.0.number in omega arith)
      | inr a ↦ a
    ]
run-level coder gone runs [] vs v (Join spec ∷ h) o r i e = run-level coder gone runs [] vs v h o r i e
run-level coder gone runs [] vs v (Leave m ∷ h) o r i e = run-level coder gone runs [] vs v h o r i e
run-level coder gone runs [] vs v (Collect ∷ h) o r i e = run-level coder gone runs [] vs v h o r i e
run-level coder gone runs [] vs v (End ∷ h) o r i e = run-level coder gone runs [] vs v h o r i e
run-level coder gone runs [] vs v (Cut ∷ h) o r i e = run-level coder gone runs [] vs v h o r i e
run-level coder gone runs (w ∷ newer) vs v [] o r i e = absurd o
run-level coder gone runs (w ∷ newer) vs v (Close tick ∷ h) o r i e =
    elim (in-append_cases r (all_runs (newer ++ v ∷ vs)) (level_runs w) i) [
      | inl a ↦ run-level coder gone runs newer vs v h o.1 r a e
      | inr a ↦
          let m = in-map_cases (run_of w.number) r w.rows a in
          let at : w.number ≡ r.task.tick = ap (λ q. q.task.tick) m.2 in
          let n = o.0.number in
          let lt = level-below coder gone runs newer vs v h o.1 in
          absurd (omega arith)
    ]
  where
    level-below : (coder : Coder) (gone : ℕ) (runs : List Run) (newer vs : List Level) (v : Level) (h : Feed) → Opens coder gone runs (newer ++ v ∷ vs) h → v.number < closes h
    level-below coder gone runs [] vs v h o = let n = opens-number coder gone runs v vs h o in omega arith
    level-below coder gone runs (w ∷ newer) vs v [] o = absurd o
    level-below coder gone runs (w ∷ newer) vs v (Close tick ∷ h) o = let ih = level-below coder gone runs newer vs v h o.1 in omega arith
    level-below coder gone runs (w ∷ newer) vs v (Join spec ∷ h) o = level-below coder gone runs (w ∷ newer) vs v h o
    level-below coder gone runs (w ∷ newer) vs v (Leave m ∷ h) o = level-below coder gone runs (w ∷ newer) vs v h o
    level-below coder gone runs (w ∷ newer) vs v (Collect ∷ h) o = level-below coder gone runs (w ∷ newer) vs v h o
    level-below coder gone runs (w ∷ newer) vs v (End ∷ h) o = level-below coder gone runs (w ∷ newer) vs v h o
    level-below coder gone runs (w ∷ newer) vs v (Cut ∷ h) o = level-below coder gone runs (w ∷ newer) vs v h o
run-level coder gone runs (w ∷ newer) vs v (Join spec ∷ h) o r i e = run-level coder gone runs (w ∷ newer) vs v h o r i e
run-level coder gone runs (w ∷ newer) vs v (Leave m ∷ h) o r i e = run-level coder gone runs (w ∷ newer) vs v h o r i e
run-level coder gone runs (w ∷ newer) vs v (Collect ∷ h) o r i e = run-level coder gone runs (w ∷ newer) vs v h o r i e
run-level coder gone runs (w ∷ newer) vs v (End ∷ h) o r i e = run-level coder gone runs (w ∷ newer) vs v h o r i e
run-level coder gone runs (w ∷ newer) vs v (Cut ∷ h) o r i e = run-level coder gone runs (w ∷ newer) vs v h o r i e

-- the runs of a level are among all
pub level-all : (newer vs : List Level) (v : Level) (r : Run) → In r (level_runs v) → In r (all_runs (newer ++ v ∷ vs))
level-all [] vs v r i = in-append_right r (all_runs vs) (level_runs v) i
level-all (w ∷ newer) vs v r i = in-append_left r (all_runs (newer ++ v ∷ vs)) (level_runs w) (level-all newer vs v r i)

-- what a level's rows say, where the runs are those of the levels
pub level-tells : (coder : Coder) → Tells coder → (gone : ℕ) (runs some : List Run) (newer vs : List Level) (v : Level) (h : Feed)
    → Opens coder gone some (newer ++ v ∷ vs) h → SameRuns runs (all_runs (newer ++ v ∷ vs)) → Once (triples_of v.rows) → gone ≤ v.number
    → RowsTell coder gone runs v.number v.rows × RowsHave coder runs v.number v.rows
level-tells coder tells gone runs some newer vs v h o same once le =
    let k = v.number in
    let all = all_runs (newer ++ v ∷ vs) in
    let here : (x : Task) → x.tick ≡ k → (r : Run) → In r runs → r.task ≡ x → (q : Row) × In q v.rows × (run_of k q ≡ r) = λ x e r i t.
    let at : r.task.tick ≡ k = ap (λ y. y.tick) t ∙ e in
    in-map_cases (run_of k) r v.rows (run-level coder gone some newer vs v h o r ((same r).0 i) at) in (
      record {
        done = λ r i.
            let task : Task = record { tick = k; triple = r.triple } in
            let fin = is_finished r.stage in
            elim (cases_Bool fin) [
              | inl t ↦
                  done-finished coder tells gone runs task
                  (run-finished runs (run_of k r) ((same (run_of k r)).1 (level-all newer vs v (run_of k r) (in-map (run_of k) r v.rows i))) t)
                  ∙ sym t
              | inr t ↦
                  elim (cases_Bool (is_done coder gone runs task)) [
                    | inl d ↦ elim (done-cases coder tells gone runs task d) [
                      | inl lt ↦ absurd (omega arith)
                      | inr f ↦
                          let g = finished-run runs task f in
                          let q = here task refl g.0 g.1 g.3 in
                          let one = one-row v.rows once q.0 r q.1 i (ap (λ y. y.task.triple) q.2 ∙ ap (λ y. y.triple) g.3) in
                          absurd (both_ways fin t (ap (λ y. is_finished y.stage) (sym one) ∙ ap (λ y. is_finished y.stage) q.2 ∙ g.2))
                    ]
                    | inr d ↦ d ∙ sym t
                  ]
            ];
      },
      record {
        has = λ x e.
            elim (cases_Bool (has coder (row_tasks k v.rows) x)) [
              | inl t ↦
                  let r = in-map_cases (λ r. record { tick = k; triple = r.triple }) x v.rows (has-in coder tells (row_tasks k v.rows) x t) in
                  let P : Task → Type 0 = λ y. In y (run_tasks runs) in
                  in-has coder tells (run_tasks runs) x (subst P r.2 (in-map (λ r. r.task) (run_of k r.0) runs ((same (run_of k r.0)).1 (level-all newer vs v (run_of k r.0) (in-map (run_of k) r.0 v.rows r.1)))))
                  ∙ sym t
              | inr t ↦
                  elim (cases_Bool (has coder (run_tasks runs) x)) [
                    | inl u ↦
                        let g = in-map_cases (λ r. r.task) x runs (has-in coder tells (run_tasks runs) x u) in
                        let q = here x e g.0 g.1 g.2 in
                        let P : Task → Type 0 = λ y. In y (row_tasks k v.rows) in
                        let mine : record { tick = k; triple = q.0.triple } ≡ x = ap (λ y. y.task) q.2 ∙ g.2 in
                        absurd (both_ways (has coder (row_tasks k v.rows) x) t
                        (in-has coder tells (row_tasks k v.rows) x (subst P mine (in-map (λ r. record { tick = k; triple = r.triple }) q.0 v.rows q.1))))
                    | inr u ↦ u ∙ sym t
                  ]
            ];
      },
    )

pub append-assoc' : {X : Type 0} (a : List X) (x : X) (b : List X) → (a ++ x ∷ []) ++ b ≡ a ++ x ∷ b
append-assoc' [] x b = refl
append-assoc' (y ∷ a) x b = ap (λ c. y ∷ c) (append-assoc' a x b)

pub levels-tell_from : (coder : Coder) → Tells coder → (gone : ℕ) (runs some : List Run) (newer vs : List Level) (h : Feed)
    → Opens coder gone some (newer ++ vs) h → SameRuns runs (all_runs (newer ++ vs)) → LevelsOnce vs → LevelsTell coder gone runs vs
levels-tell_from coder tells gone runs some newer [] h o same once = tt
levels-tell_from coder tells gone runs some newer (v ∷ vs) h o same once =
    let e : (newer ++ v ∷ []) ++ vs ≡ newer ++ v ∷ vs = append-assoc' newer v vs in (
      level-tells coder tells gone runs some newer vs v h o same once.0 (late-level coder gone some newer vs v h o),
      levels-tell_from coder tells gone runs some (newer ++ v ∷ []) vs h
          (let P : List Level → Type 0 = λ ws. Opens coder gone some ws h in subst P (sym e) o)
          (let P : List Level → Type 0 = λ ws. SameRuns runs (all_runs ws) in subst P (sym e) same) once.1,
    )
  where
    late-level : (coder : Coder) (gone : ℕ) (runs : List Run) (newer vs : List Level) (v : Level) (h : Feed) → Opens coder gone runs (newer ++ v ∷ vs) h → gone ≤ v.number
    late-level coder gone runs [] vs v [] o = absurd o
    late-level coder gone runs [] vs v (Close tick ∷ h) o = let a = o.0.open' in let b = o.0.number in omega arith
    late-level coder gone runs [] vs v (Join spec ∷ h) o = late-level coder gone runs [] vs v h o
    late-level coder gone runs [] vs v (Leave m ∷ h) o = late-level coder gone runs [] vs v h o
    late-level coder gone runs [] vs v (Collect ∷ h) o = late-level coder gone runs [] vs v h o
    late-level coder gone runs [] vs v (End ∷ h) o = late-level coder gone runs [] vs v h o
    late-level coder gone runs [] vs v (Cut ∷ h) o = late-level coder gone runs [] vs v h o
    late-level coder gone runs (w ∷ newer) vs v [] o = absurd o
    late-level coder gone runs (w ∷ newer) vs v (Close tick ∷ h) o = late-level coder gone runs newer vs v h o.1
    late-level coder gone runs (w ∷ newer) vs v (Join spec ∷ h) o = late-level coder gone runs (w ∷ newer) vs v h o
    late-level coder gone runs (w ∷ newer) vs v (Leave m ∷ h) o = late-level coder gone runs (w ∷ newer) vs v h o
    late-level coder gone runs (w ∷ newer) vs v (Collect ∷ h) o = late-level coder gone runs (w ∷ newer) vs v h o
    late-level coder gone runs (w ∷ newer) vs v (End ∷ h) o = late-level coder gone runs (w ∷ newer) vs v h o
    late-level coder gone runs (w ∷ newer) vs v (Cut ∷ h) o = late-level coder gone runs (w ∷ newer) vs v h o

-- ---- one row's stage ----

-- a place splits a list
pub record SplitAt {X : Type 0} (xs : List X) (i : ℕ) (x : X) : Type 0 where
  pub front : List X
  pub rest : List X
  pub whole : xs ≡ front ++ x ∷ rest
  pub changed : (y : X) → set xs i y ≡ front ++ y ∷ rest

pub split-at : {X : Type 0} (xs : List X) (i : ℕ) (x : X) → slice_get xs i ≡ Some x → SplitAt xs i x
split-at [] i x e = cc
split-at {X} (y ∷ xs) i x e =
    let at : (i : ℕ) → slice_get (y ∷ xs) i ≡ Some x → SplitAt (y ∷ xs) i x = elim [
      | zero ↦ λ e. let q : y ≡ x = cc in record { front = []; rest = xs; whole = ap (λ z. z ∷ xs) q; changed = λ z. refl }
      | suc i ↦ λ e. let s = split-at xs i x e in record {
        front = y ∷ s.front;
        rest = s.rest;
        whole = ap (λ ys. y ∷ ys) s.whole;
        changed = λ z. ap (λ ys. y ∷ ys) (s.changed z);
      }
    ] in
    at i e

-- all runs round one row's run
pub runs-split : (newer vs : List Level) (v : Level) (a : List Row) (r : Row) (b : List Row)
    → (A : List Run) × (B : List Run) × ((stage : Stage) → all_runs (newer ++ with_rows v (a ++ staged r stage ∷ b) ∷ vs) ≡ A ++ run_of v.number (staged r stage) ∷ B)
runs-split [] vs v a r b = (
  all_runs vs ++ map (run_of v.number) a,
  map (run_of v.number) b,
  λ stage. ap (λ rs. all_runs vs ++ rs) (map-append (run_of v.number) a (staged r stage ∷ b)) ∙ sym (append_assoc (all_runs vs) (map (run_of v.number) a) (run_of v.number (staged r stage) ∷ map (run_of v.number) b)),
)
runs-split (w ∷ newer) vs v a r b =
    let ih = runs-split newer vs v a r b in (
      ih.0,
      ih.1 ++ level_runs w,
      λ stage. ap (λ rs. rs ++ level_runs w) (ih.2 stage) ∙ append_assoc ih.0 (run_of v.number (staged r stage) ∷ ih.1) (level_runs w),
    )

pub once-middle : {X : Type 0} (a : List X) (x : X) (b : List X) → Once (a ++ x ∷ b) → (In x a → ⊥) × (In x b → ⊥)
once-middle [] x b o = ((λ i. i), o.0)
once-middle (y ∷ a) x b o =
    let ih = once-middle a x b o.1 in
    ((λ i. elim i [ inl e ↦ o.0 (let P : _ → Type 0 = λ z. In z (a ++ x ∷ b) in subst P (sym e) (in-append_right x a (x ∷ b) (inl refl))) | inr j ↦ ih.0 j ]), ih.1)

pub in-middle : {X : Type 0} (a : List X) (x : X) (b : List X) (z : X) → In z (a ++ x ∷ b) → (x ≡ z) ⊎ (In z a ⊎ In z b)
in-middle a x b z i = elim (in-append_cases z a (x ∷ b) i) [ inl j ↦ inr (inl j) | inr j ↦ elim j [ inl e ↦ inl e | inr k ↦ inr (inr k) ] ]

-- a run that isn't moved stays
pub moved-other : (n : ℕ) (stage : Stage) (r : Run) → (r.number ≡ n → ⊥) → moved n stage r ≡ r
moved-other n stage r ne = cond-false (r.number == n) (record { number = r.number; task = r.task; stage = stage }) r (ne_eqb r.number n ne)

pub moved-same : (n : ℕ) (stage : Stage) (r : Run) → r.number ≡ n → moved n stage r ≡ record { number = r.number; task = r.task; stage = stage }
moved-same n stage r e = cond-true (r.number == n) (record { number = r.number; task = r.task; stage = stage }) r (eq-eqb r.number n e)

-- the machine's run changes its stage as the row does
pub same-moved : (coder : Coder) (gone high : ℕ) (runs : List Run) (newer vs : List Level) (v : Level) (h : Feed) (at : ℕ) (r : Row) (stage : Stage)
    → Opens coder gone runs (newer ++ v ∷ vs) h → LevelsOnce (newer ++ v ∷ vs) → Rise 0 high runs → SameRuns runs (all_runs (newer ++ v ∷ vs))
    → slice_get v.rows at ≡ Some r
    → SameRuns (map (moved r.number stage) runs) (all_runs (newer ++ with_rows v (set v.rows at (staged r stage)) ∷ vs))
same-moved coder gone high runs newer vs v h at r stage o once rise same there =
    let s = split-at v.rows at r there in
    let sp = runs-split newer vs v s.front r s.rest in
    let A = sp.0 in
    let B = sp.1 in
    let run = run_of v.number r in
    let run' = run_of v.number (staged r stage) in
    let whole : all_runs (newer ++ v ∷ vs) ≡ A ++ run ∷ B =
    ap (λ rows. all_runs (newer ++ with_rows v rows ∷ vs)) s.whole ∙ sp.2 r.stage in
    let changed : all_runs (newer ++ with_rows v (set v.rows at (staged r stage)) ∷ vs) ≡ A ++ run' ∷ B =
    ap (λ rows. all_runs (newer ++ with_rows v rows ∷ vs)) (s.changed (staged r stage)) ∙ sp.2 stage in
    let O : List Run → Type 0 = Once in
    let apart = once-middle A run B (subst O whole (once-runs coder gone runs (newer ++ v ∷ vs) h o once)) in
    let L : Run → List Run → Type 0 = λ q rs. In q rs in
    let there_run : In run runs = (same run).1 (subst (L run) (sym whole) (in-append_right run A (run ∷ B) (inl refl))) in
    let other : (q : Run) → In q runs → (In q A ⊎ In q B) → q.number ≡ r.number → ⊥ = λ q i side e.
    let one : q ≡ run = unique 0 high runs rise q run i there_run e in
    elim side [ inl j ↦ apart.0 (subst (λ z. In z A) one j) | inr j ↦ apart.1 (subst (λ z. In z B) one j) ] in
    let back : (q : Run) → In q A ⊎ In q B → In q runs = λ q side. (same q).1 (subst (L q) (sym whole) (elim side [
      | inl j ↦ in-append_left q A (run ∷ B) j
      | inr j ↦ in-append_right q A (run ∷ B) (inr j)
    ])) in
    λ q. (
      (λ i.
          let m = in-map_cases (moved r.number stage) q runs i in
          elim (in-middle A run B m.0 (subst (L m.0) whole ((same m.0).0 m.1))) [
            | inl e ↦
                let is : moved r.number stage m.0 ≡ run' = ap (moved r.number stage) (sym e) ∙ moved-same r.number stage run refl in
                subst (L q) (sym changed) (in-append_right q A (run' ∷ B) (inl (sym is ∙ m.2)))
            | inr side ↦
                let is : m.0 ≡ q = sym (moved-other r.number stage m.0 (other m.0 m.1 side)) ∙ m.2 in
                subst (L q) (sym changed) (elim side [
                  | inl j ↦ in-append_left q A (run' ∷ B) (subst (λ z. In z A) is j)
                  | inr j ↦ in-append_right q A (run' ∷ B) (inr (subst (λ z. In z B) is j))
                ])
          ]),
      (λ i.
          elim (in-middle A run' B q (subst (L q) changed i)) [
            | inl e ↦
                let is : moved r.number stage run ≡ q = moved-same r.number stage run refl ∙ e in
                subst (λ z. In z (map (moved r.number stage) runs)) is (in-map (moved r.number stage) run runs there_run)
            | inr side ↦
                let iq = back q side in
                subst (λ z. In z (map (moved r.number stage) runs)) (moved-other r.number stage q (other q iq side)) (in-map (moved r.number stage) q runs iq)
          ]),
    )

-- another stage changes no triple, so no level
pub triples-set : (rows : List Row) (at : ℕ) (r : Row) (stage : Stage) → slice_get rows at ≡ Some r
    → triples_of (set rows at (staged r stage)) ≡ triples_of rows
triples-set rows at r stage there =
    let s = split-at rows at r there in
    ap triples_of (s.changed (staged r stage)) ∙ map-append (λ r. r.triple) s.front (staged r stage ∷ s.rest)
    ∙ sym (map-append (λ r. r.triple) s.front (r ∷ s.rest)) ∙ sym (ap triples_of s.whole)

pub get-set : {X : Type 0} (xs : List X) (i : ℕ) (x y : X) (j : ℕ) (z : X) → slice_get xs i ≡ Some x → slice_get xs j ≡ Some z
    → (slice_get (set xs i y) j ≡ Some z) ⊎ ((i ≡ j) × (slice_get (set xs i y) j ≡ Some y))
get-set [] i x y j z e f = cc
get-set {X} (w ∷ xs) i x y j z e f =
    let at : (i j : ℕ) → slice_get (w ∷ xs) i ≡ Some x → slice_get (w ∷ xs) j ≡ Some z → (slice_get (set (w ∷ xs) i y) j ≡ Some z) ⊎ ((i ≡ j) × (slice_get (set (w ∷ xs) i y) j ≡ Some y)) = elim [
      | zero ↦ elim [ zero ↦ λ e f. inr (refl, refl) | suc j ↦ λ e f. inl f ]
      | suc i ↦ elim [
        | zero ↦ λ e f. inl f
        | suc j ↦ λ e f. elim (get-set xs i x y j z e f) [ inl a ↦ inl a | inr a ↦ inr (ap suc a.0, a.1) ]
      ]
    ] in
    at i j e f

pub at-staged : (rows : List Row) (i : ℕ) (r : Row) (stage : Stage) (at : ℕ) (t : Triple) → slice_get rows i ≡ Some r → IsAt rows at t
    → IsAt (set rows i (staged r stage)) at t
at-staged rows i r stage at t there a =
    elim (get-set rows i r (staged r stage) at a.row there a.there) [
      | inl e ↦ record { row = a.row; there = e; same = a.same }
      | inr e ↦
          let q : Some r ≡ Some a.row = sym there ∙ ap (slice_get rows) e.0 ∙ a.there in
          let one : r ≡ a.row = cc in
          record { row = staged r stage; there = e.1; same = ap (λ x. x.triple) one ∙ a.same }
    ]

pub sits-staged : (coder : Coder) (gone : ℕ) (runs : List Run) (rows : List Row) (i : ℕ) (r : Row) (stage : Stage) (k : ℕ) (tick : Tick) (h : Feed) (s : Seat) (l : Listener)
    → slice_get rows i ≡ Some r → Sits coder gone runs rows k tick h s l → Sits coder gone runs (set rows i (staged r stage)) k tick h s l
sits-staged coder gone runs rows i r stage k tick h s l there z =
    let t = (task_of coder k tick l).triple in
    let by : (b : Bool) (o : Option ℕ) → Knows b o rows t → Knows b o (set rows i (staged r stage)) t = elim [
      | true ↦ elim [ Some n ↦ λ a. at-staged rows i r stage n t there a | None ↦ λ a. a ]
      | false ↦ elim [ Some n ↦ λ a. a | None ↦ λ a. a ]
    ] in
    record { spec = z.spec; heard = z.heard; run = by (has_passed coder gone runs l) s.run z.run; came = z.came }

pub opens-staged : (coder : Coder) (gone : ℕ) (runs : List Run) (newer vs : List Level) (v : Level) (at : ℕ) (r : Row) (stage : Stage) (h : Feed)
    → slice_get v.rows at ≡ Some r
    → Opens coder gone runs (newer ++ v ∷ vs) h → Opens coder gone runs (newer ++ with_rows v (set v.rows at (staged r stage)) ∷ vs) h
opens-staged coder gone runs [] vs v at r stage [] there o = absurd o
opens-staged coder gone runs [] vs v at r stage (Close tick ∷ h) there o = (
  record {
    open' = o.0.open';
    number = o.0.number;
    talkers = o.0.talkers;
    seats = zip-map (Sits coder gone runs v.rows (closes h) tick h) (Sits coder gone runs (set v.rows at (staged r stage)) (closes h) tick h) v.seats (listeners coder h)
        (λ s l i z. sits-staged coder gone runs v.rows at r stage (closes h) tick h s l there z) o.0.seats;
  },
  o.1,
)
opens-staged coder gone runs [] vs v at r stage (Join spec ∷ h) there o = opens-staged coder gone runs [] vs v at r stage h there o
opens-staged coder gone runs [] vs v at r stage (Leave m ∷ h) there o = opens-staged coder gone runs [] vs v at r stage h there o
opens-staged coder gone runs [] vs v at r stage (Collect ∷ h) there o = opens-staged coder gone runs [] vs v at r stage h there o
opens-staged coder gone runs [] vs v at r stage (End ∷ h) there o = opens-staged coder gone runs [] vs v at r stage h there o
opens-staged coder gone runs [] vs v at r stage (Cut ∷ h) there o = opens-staged coder gone runs [] vs v at r stage h there o
opens-staged coder gone runs (w ∷ newer) vs v at r stage [] there o = absurd o
opens-staged coder gone runs (w ∷ newer) vs v at r stage (Close tick ∷ h) there o = (o.0, opens-staged coder gone runs newer vs v at r stage h there o.1)
opens-staged coder gone runs (w ∷ newer) vs v at r stage (Join spec ∷ h) there o = opens-staged coder gone runs (w ∷ newer) vs v at r stage h there o
opens-staged coder gone runs (w ∷ newer) vs v at r stage (Leave m ∷ h) there o = opens-staged coder gone runs (w ∷ newer) vs v at r stage h there o
opens-staged coder gone runs (w ∷ newer) vs v at r stage (Collect ∷ h) there o = opens-staged coder gone runs (w ∷ newer) vs v at r stage h there o
opens-staged coder gone runs (w ∷ newer) vs v at r stage (End ∷ h) there o = opens-staged coder gone runs (w ∷ newer) vs v at r stage h there o
opens-staged coder gone runs (w ∷ newer) vs v at r stage (Cut ∷ h) there o = opens-staged coder gone runs (w ∷ newer) vs v at r stage h there o

pub once-staged : (newer vs : List Level) (v : Level) (at : ℕ) (r : Row) (stage : Stage) → slice_get v.rows at ≡ Some r → LevelsOnce (newer ++ v ∷ vs)
    → LevelsOnce (newer ++ with_rows v (set v.rows at (staged r stage)) ∷ vs)
once-staged [] vs v at r stage there o = (subst Once (sym (triples-set v.rows at r stage there)) o.0, o.1)
once-staged (w ∷ newer) vs v at r stage there o = (o.0, once-staged newer vs v at r stage there o.1)

-- runs that pass alike leave all as it was
pub opens-alike : (coder : Coder) (gone : ℕ) (runs runs' : List Run) → ((l : Listener) → has_passed coder gone runs' l ≡ has_passed coder gone runs l)
    → (vs : List Level) (h : Feed)
    → Opens coder gone runs vs h → Opens coder gone runs' vs h
opens-alike coder gone runs runs' e [] h o = o
opens-alike coder gone runs runs' e (v ∷ vs) [] o = absurd o
opens-alike coder gone runs runs' e (v ∷ vs) (Close tick ∷ h) o =
    (level-same coder gone runs runs' v tick h (λ s l i z. e l) o.0, opens-alike coder gone runs runs' e vs h o.1)
opens-alike coder gone runs runs' e (v ∷ vs) (Join spec ∷ h) o = opens-alike coder gone runs runs' e (v ∷ vs) h o
opens-alike coder gone runs runs' e (v ∷ vs) (Leave m ∷ h) o = opens-alike coder gone runs runs' e (v ∷ vs) h o
opens-alike coder gone runs runs' e (v ∷ vs) (Collect ∷ h) o = opens-alike coder gone runs runs' e (v ∷ vs) h o
opens-alike coder gone runs runs' e (v ∷ vs) (End ∷ h) o = opens-alike coder gone runs runs' e (v ∷ vs) h o
opens-alike coder gone runs runs' e (v ∷ vs) (Cut ∷ h) o = opens-alike coder gone runs runs' e (v ∷ vs) h o
