-- A publication: who newly passes, and what is numbered for it.
use Rattle.std.proofs.Common.{◌≡◌, ℕ, ◌+◌, ◌≤◌, ◌<◌, inl, inr, Bool, true, not, ◌&&◌, List, [], ◌∷◌, ◌++◌, map, refl, sym, ◌∙◌, ap, subst, arith}
use Rattle.std.specs.Prelude.{nat_le, option_and_then}
use Rattle.std.specs.List.{filter, list_all}
use Rattle.std.proofs.lemmas.Bool.{cases_Bool, cond-true, cond-false, not_from_false, not_from_true, both_ways, le-leb, leb-true}
use Rattle.talk_mix.specs.declared.ticks.Tick.{Tick}
use Rattle.triple_table.specs.Rows.{Row}
use Rattle.conference_spec.specs.declared.Entry.TheVariants.{Join, Leave, Close, Collect, Cut, End}
use Rattle.conference_spec.specs.declared.Task.{Task}
use Rattle.conference_spec.specs.Coding.{Coder, Tells}
use Rattle.conference_spec.specs.Feed.{Feed, Listener, listeners, closes}
use Rattle.conference_spec.specs.Tasks.{task_of, tasks_of, is_same_task, each_once, wanted}
use Rattle.conference_spec.specs.Machine.{Run, is_done, has_passed, has, run_tasks}
use Rattle.conference_spec.specs.Members.{In}
use Rattle.conference_spec.proofs.Members.{in-append_left, in-append_right, in-map_cases, in-filter_parts}
use Rattle.conference_spec.proofs.Wants.{same-decides, own-wanted, wanted-tick, at-wanted, once-in}
use Rattle.conference_spec.proofs.Stages.{filter-append'}
use Rattle.book_lists.specs.Levels.{Level, Knows, IsNewest, Sits, IsLevel, Opens, state_of_seat, state_at}
use Rattle.book_lists.specs.declared.seats.Seat.{Seat}
use Rattle.book_lists.proofs.Rowing.{row_tasks, fresh, filter-agree, filter-swap, filter-implied}
use Rattle.book_lists.proofs.Seating.{known_if, state_of, get-in, zip-at, RowsTell, next-state, newly, zip-map}

-- what is wanted of a feed, isn't collected, and has no run
abbrev pub news : Coder → ℕ → List Run → Feed → List Task
news coder gone runs h = filter (λ x. not (has coder (run_tasks runs) x)) (filter (λ x. nat_le gone x.tick) (wanted coder (has_passed coder gone runs) h))

-- of one tick
abbrev pub news_at : Coder → ℕ → List Run → ℕ → Tick → List Listener → List Task
news_at coder gone runs k tick ls =
    filter (λ x. not (has coder (run_tasks runs) x)) (filter (λ x. nat_le gone x.tick) (each_once coder (map (task_of coder k tick) (filter (has_passed coder gone runs) ls))))

pub news-close : (coder : Coder) (gone : ℕ) (runs : List Run) (tick : Tick) (h : Feed)
    → news coder gone runs (Close tick ∷ h) ≡ news coder gone runs h ++ news_at coder gone runs (closes h) tick (listeners coder h)
news-close coder gone runs tick h =
    let free = λ (x : Task). not (has coder (run_tasks runs) x) in
    let late = λ (x : Task). nat_le gone x.tick in
    let w = wanted coder (has_passed coder gone runs) h in
    let here = each_once coder (map (task_of coder (closes h) tick) (filter (has_passed coder gone runs) (listeners coder h))) in
    ap (filter free) (filter-append' late w here) ∙ filter-append' free (filter late w) (filter late here)

-- a level's rows have just the runs of its tick
pub record RowsHave (coder : Coder) (runs : List Run) (k : ℕ) (rows : List Row) : Type 0 where
  pub has : (x : Task) → x.tick ≡ k → has coder (run_tasks runs) x ≡ has coder (row_tasks k rows) x

abbrev pub LevelsTell : Coder → ℕ → List Run → List Level → Type 0
LevelsTell coder gone runs [] = Unit {0}
LevelsTell coder gone runs (v ∷ vs) = (RowsTell coder gone runs v.number v.rows × RowsHave coder runs v.number v.rows) × LevelsTell coder gone runs vs

abbrev pub HeadTells : Coder → ℕ → List Run → List Level → Type 0
HeadTells coder gone runs [] = Unit {0}
HeadTells coder gone runs (v ∷ vs) = RowsTell coder gone runs v.number v.rows

-- the state at a place of the newest level
pub state-newest : (coder : Coder) (gone : ℕ) (runs : List Run) (v : Level) (vs : List Level) (h : Feed) → RowsTell coder gone runs v.number v.rows
    → Opens coder gone runs (v ∷ vs) h
    → (i : ℕ) (l : Listener) → IsNewest coder h i l → state_at coder v i ≡ known_if (has_passed coder gone runs l) (state_of coder l)
state-newest coder gone runs v vs [] t o i l n = absurd n
state-newest coder gone runs v vs (Close tick ∷ h) t o i l n =
    let m = n.0 in
    let z = zip-at (Sits coder gone runs v.rows (closes h) tick h) v.seats (listeners coder h) i m o.0.seats n.1 in
    let t' = (let P : ℕ → Type 0 = λ k. RowsTell coder gone runs k v.rows in subst P o.0.number t) in
    ap (option_and_then (λ s. state_of_seat coder v.rows s.run)) z.1
    ∙ next-state coder gone runs v.rows tick h z.0 m (get-in (listeners coder h) i m n.1) t' z.2
    ∙ ap (λ x. known_if (has_passed coder gone runs x) (state_of coder x)) n.2
state-newest coder gone runs v vs (Join spec ∷ h) t o i l n = state-newest coder gone runs v vs h t o i l n
state-newest coder gone runs v vs (Leave m ∷ h) t o i l n = state-newest coder gone runs v vs h t o i l n
state-newest coder gone runs v vs (Collect ∷ h) t o i l n = state-newest coder gone runs v vs h t o i l n
state-newest coder gone runs v vs (End ∷ h) t o i l n = state-newest coder gone runs v vs h t o i l n
state-newest coder gone runs v vs (Cut ∷ h) t o i l n = state-newest coder gone runs v vs h t o i l n

-- each present listener's own tasks lie before the feed's next tick
pub own-early : (coder : Coder) → Tells coder → (h : Feed) (l : Listener) → In l (listeners coder h) → (x : Task) → In x (tasks_of coder l) → x.tick < closes h
own-early coder tells h l i x t = wanted-tick coder (λ l. true) h x (own-wanted coder tells h l i x t)

-- what is to be known of a change of runs
pub record Changes (coder : Coder) (gone k : ℕ) (runs runs' : List Run) : Type 0 where
  -- nothing ceases to be passed
  pub more : (l : Listener) → has_passed coder gone runs l ≡ true → has_passed coder gone runs' l ≡ true
  -- only tasks of tick k are newly done
  pub only : (x : Task) → (x.tick ≡ k → ⊥) → is_done coder gone runs' x ≡ is_done coder gone runs x
  -- it has the same tasks
  pub same : (x : Task) → has coder (run_tasks runs') x ≡ has coder (run_tasks runs) x

pub list-all-agree : {X : Type 0} (p q : X → Bool) (xs : List X) → ((x : X) → In x xs → p x ≡ q x) → list_all p xs ≡ list_all q xs
list-all-agree p q [] h = refl
list-all-agree p q (x ∷ xs) h = ap (λ b. b && list_all p xs) (h x (inl refl)) ∙ ap (λ b. q x && b) (list-all-agree p q xs (λ y i. h y (inr i)))

-- who was there by tick k passes as before
pub same-early : (coder : Coder) → Tells coder → (gone k : ℕ) (runs runs' : List Run) → Changes coder gone k runs runs' → (h : Feed) → closes h ≤ k
    → (l : Listener) → In l (listeners coder h) → has_passed coder gone runs' l ≡ has_passed coder gone runs l
same-early coder tells gone k runs runs' ch h le l i =
    list-all-agree (is_done coder gone runs') (is_done coder gone runs) (tasks_of coder l)
    (λ x t. ch.only x (let lt = own-early coder tells h l i x t in λ e. omega arith))

-- a seat sits under other runs that its listener passes alike
pub sits-same : (coder : Coder) (gone : ℕ) (runs runs' : List Run) (rows : List Row) (k : ℕ) (tick : Tick) (h : Feed) (s : Seat) (l : Listener)
    → has_passed coder gone runs' l ≡ has_passed coder gone runs l → Sits coder gone runs rows k tick h s l → Sits coder gone runs' rows k tick h s l
sits-same coder gone runs runs' rows k tick h s l e sits = record {
  spec = sits.spec;
  heard = sits.heard;
  run = (let P : Bool → Type 0 = λ b. Knows b s.run rows (task_of coder k tick l).triple in subst P (sym e) sits.run);
  came = sits.came;
}

pub level-same : (coder : Coder) (gone : ℕ) (runs runs' : List Run) (v : Level) (tick : Tick) (h : Feed)
    → ((s : Seat) (l : Listener) → In l (listeners coder h) → Sits coder gone runs v.rows (closes h) tick h s l → has_passed coder gone runs' l ≡ has_passed coder gone runs l)
    → IsLevel coder gone runs v tick h → IsLevel coder gone runs' v tick h
level-same coder gone runs runs' v tick h e o = record {
  open' = o.open';
  number = o.number;
  talkers = o.talkers;
  seats = zip-map (Sits coder gone runs v.rows (closes h) tick h) (Sits coder gone runs' v.rows (closes h) tick h) v.seats (listeners coder h)
      (λ s l i z. sits-same coder gone runs runs' v.rows (closes h) tick h s l (e s l i z) z) o.seats;
}

pub opens-early : (coder : Coder) → Tells coder → (gone k : ℕ) (runs runs' : List Run) → Changes coder gone k runs runs'
    → (vs : List Level) (h : Feed) → closes h ≤ k + 1
    → Opens coder gone runs vs h → Opens coder gone runs' vs h
opens-early coder tells gone k runs runs' ch [] h le o = o
opens-early coder tells gone k runs runs' ch (v ∷ vs) [] le o = absurd o
opens-early coder tells gone k runs runs' ch (v ∷ vs) (Close tick ∷ h) le o = (
  level-same coder gone runs runs' v tick h (λ s l i z. same-early coder tells gone k runs runs' ch h (omega arith) l i) o.0,
  opens-early coder tells gone k runs runs' ch vs h (omega arith) o.1,
)
opens-early coder tells gone k runs runs' ch (v ∷ vs) (Join spec ∷ h) le o = opens-early coder tells gone k runs runs' ch (v ∷ vs) h le o
opens-early coder tells gone k runs runs' ch (v ∷ vs) (Leave m ∷ h) le o = opens-early coder tells gone k runs runs' ch (v ∷ vs) h le o
opens-early coder tells gone k runs runs' ch (v ∷ vs) (Collect ∷ h) le o = opens-early coder tells gone k runs runs' ch (v ∷ vs) h le o
opens-early coder tells gone k runs runs' ch (v ∷ vs) (End ∷ h) le o = opens-early coder tells gone k runs runs' ch (v ∷ vs) h le o
opens-early coder tells gone k runs runs' ch (v ∷ vs) (Cut ∷ h) le o = opens-early coder tells gone k runs runs' ch (v ∷ vs) h le o

-- what was wanted before and isn't collected has its run
abbrev pub AllRun : Coder → ℕ → List Run → Feed → Type 0
AllRun coder gone runs h = (x : Task) → In x (wanted coder (has_passed coder gone runs) h) → gone ≤ x.tick → has coder (run_tasks runs) x ≡ true

pub all-run-tail : (coder : Coder) (gone : ℕ) (runs : List Run) (tick : Tick) (h : Feed) → AllRun coder gone runs (Close tick ∷ h) → AllRun coder gone runs h
all-run-tail coder gone runs tick h all x w le =
    all x (in-append_left x (wanted coder (has_passed coder gone runs) h) (each_once coder (map (task_of coder (closes h) tick) (filter (has_passed coder gone runs) (listeners coder h)))) w) le

pub empty-from : {X : Type 0} (xs : List X) → ((x : X) → In x xs → ⊥) → xs ≡ []
empty-from [] h = refl
empty-from (x ∷ xs) h = absurd (h x (inl refl))

-- nothing is new at a tick whose listeners pass as before
pub news-none_at : (coder : Coder) → Tells coder → (gone k : ℕ) (runs runs' : List Run) → Changes coder gone k runs runs' → (tick : Tick) (h : Feed)
    → ((l : Listener) → In l (listeners coder h) → has_passed coder gone runs' l ≡ has_passed coder gone runs l)
    → AllRun coder gone runs (Close tick ∷ h) → news_at coder gone runs' (closes h) tick (listeners coder h) ≡ []
news-none_at coder tells gone k runs runs' ch tick h same all =
    let p = has_passed coder gone runs in
    let p' = has_passed coder gone runs' in
    let ls = listeners coder h in
    let task = task_of coder (closes h) tick in
    let free = λ (x : Task). not (has coder (run_tasks runs') x) in
    let late = λ (x : Task). nat_le gone x.tick in
    empty-from (news_at coder gone runs' (closes h) tick ls)
    (λ x i.
    let a = in-filter_parts free x (filter late (each_once coder (map task (filter p' ls)))) i in
    let b = in-filter_parts late x (each_once coder (map task (filter p' ls))) a.0 in
    let m = in-map_cases task x (filter p' ls) (once-in coder x (map task (filter p' ls)) b.0) in
    let f = in-filter_parts p' m.0 ls m.1 in
    let P : Task → Type 0 = λ y. In y (wanted coder p (Close tick ∷ h)) in
    let was = subst P m.2 (in-append_right (task m.0) (wanted coder p h) (each_once coder (map task (filter p ls)))
    (at-wanted coder tells (closes h) tick p ls m.0 f.0 (sym (same m.0 f.0) ∙ f.1))) in
    both_ways (free x) (not_from_true (has coder (run_tasks runs') x) (ch.same x ∙ all x was (leb-true gone x.tick b.1))) a.1)

pub news-early : (coder : Coder) → Tells coder → (gone k : ℕ) (runs runs' : List Run) → Changes coder gone k runs runs' → (h : Feed) → closes h ≤ k + 1
    → AllRun coder gone runs h → news coder gone runs' h ≡ []
news-early coder tells gone k runs runs' ch [] le all = refl
news-early coder tells gone k runs runs' ch (Close tick ∷ h) le all =
    news-close coder gone runs' tick h
    ∙ ap (λ ns. ns ++ news_at coder gone runs' (closes h) tick (listeners coder h)) (news-early coder tells gone k runs runs' ch h (omega arith) (all-run-tail coder gone runs tick h all))
    ∙ news-none_at coder tells gone k runs runs' ch tick h (same-early coder tells gone k runs runs' ch h (omega arith)) all
news-early coder tells gone k runs runs' ch (Join spec ∷ h) le all = news-early coder tells gone k runs runs' ch h le all
news-early coder tells gone k runs runs' ch (Leave m ∷ h) le all = news-early coder tells gone k runs runs' ch h le all
news-early coder tells gone k runs runs' ch (Collect ∷ h) le all = news-early coder tells gone k runs runs' ch h le all
news-early coder tells gone k runs runs' ch (End ∷ h) le all = news-early coder tells gone k runs runs' ch h le all
news-early coder tells gone k runs runs' ch (Cut ∷ h) le all = news-early coder tells gone k runs runs' ch h le all

-- of each once, those that pass: each once of those that pass
pub once-filter_swap : (coder : Coder) → Tells coder → (p : Task → Bool) (xs : List Task) → filter p (each_once coder xs) ≡ each_once coder (filter p xs)
once-filter_swap coder tells p [] = refl
once-filter_swap coder tells p (x ∷ xs) =
    let ih = once-filter_swap coder tells p xs in
    let other = λ (y : Task). not (is_same_task coder x y) in
    let rest = filter p (filter other (each_once coder xs)) in
    elim (cases_Bool (p x)) [
      | inl t ↦ cond-true (p x) (x ∷ rest) rest t
          ∙ ap (λ ys. x ∷ ys) (filter-swap p other (each_once coder xs) ∙ ap (filter other) ih)
          ∙ ap (each_once coder) (sym (cond-true (p x) (x ∷ filter p xs) (filter p xs) t))
      | inr t ↦ cond-false (p x) (x ∷ rest) rest t
          ∙ filter-implied p other (each_once coder xs)
          (λ y u. elim (cases_Bool (is_same_task coder x y)) [
            | inl s ↦ absurd (both_ways (p x) t (ap p ((same-decides coder tells x y).0 s) ∙ u))
            | inr s ↦ not_from_false (is_same_task coder x y) s
          ])
          ∙ ih
          ∙ ap (each_once coder) (sym (cond-false (p x) (x ∷ filter p xs) (filter p xs) t))
    ]

pub filter-map_swap : {X Y : Type 0} (f : X → Y) (p : Y → Bool) (xs : List X) → filter p (map f xs) ≡ map f (filter (λ x. p (f x)) xs)
filter-map_swap f p [] = refl
filter-map_swap {X} f p (x ∷ xs) =
    let ih = filter-map_swap f p xs in
    let q = λ (y : X). p (f y) in
    elim (cases_Bool (p (f x))) [
      | inl t ↦ cond-true (p (f x)) (f x ∷ filter p (map f xs)) (filter p (map f xs)) t ∙ ap (λ zs. f x ∷ zs) ih
          ∙ ap (map f) (sym (cond-true (q x) (x ∷ filter q xs) (filter q xs) t))
      | inr t ↦ cond-false (p (f x)) (f x ∷ filter p (map f xs)) (filter p (map f xs)) t ∙ ih
          ∙ ap (map f) (sym (cond-false (q x) (x ∷ filter q xs) (filter q xs) t))
    ]

pub filter-all : {X : Type 0} (p : X → Bool) (xs : List X) → ((x : X) → In x xs → p x ≡ true) → filter p xs ≡ xs
filter-all p [] h = refl
filter-all p (x ∷ xs) h = cond-true (p x) (x ∷ filter p xs) (filter p xs) (h x (inl refl)) ∙ ap (λ ys. x ∷ ys) (filter-all p xs (λ y i. h y (inr i)))

-- at a level whose seats took their states, what is new is what was placed for those who have newly passed
pub news-fresh : (coder : Coder) → Tells coder → (gone k : ℕ) (runs runs' : List Run) → Changes coder gone k runs runs'
    → (rows : List Row) (tick : Tick) (h : Feed)
    → gone ≤ closes h → RowsHave coder runs' (closes h) rows → AllRun coder gone runs (Close tick ∷ h)
    → news_at coder gone runs' (closes h) tick (listeners coder h)
    ≡ fresh coder (closes h) rows (map (task_of coder (closes h) tick) (filter (newly (has_passed coder gone runs) (has_passed coder gone runs')) (listeners coder h)))
news-fresh coder tells gone k runs runs' ch rows tick h le have all =
    let p = has_passed coder gone runs in
    let p' = has_passed coder gone runs' in
    let new = newly p p' in
    let ls = listeners coder h in
    let n = closes h in
    let task = task_of coder n tick in
    let free = λ (x : Task). not (has coder (run_tasks runs') x) in
    let free_row = λ (x : Task). not (has coder (row_tasks n rows) x) in
    let late = λ (x : Task). nat_le gone x.tick in
    let all_here : (q : Listener → Bool) (x : Task) → In x (each_once coder (map task (filter q ls))) → x.tick ≡ n = λ q x i.
    let m = in-map_cases task x (filter q ls) (once-in coder x (map task (filter q ls)) i) in sym (ap (λ y. y.tick) m.2) in
    ap (filter free) (filter-all late (each_once coder (map task (filter p' ls))) (λ x i. let e = all_here p' x i in le-leb gone x.tick (omega arith)))
    ∙ filter-agree free free_row (each_once coder (map task (filter p' ls))) (λ x i. ap not (have.has x (all_here p' x i)))
    ∙ once-filter_swap coder tells free_row (map task (filter p' ls))
    ∙ ap (each_once coder)
    (filter-map_swap task free_row (filter p' ls)
    ∙ ap (map task)
    (filter-swap (λ l. free_row (task l)) p' ls
    ∙ filter-agree p' new (filter (λ l. free_row (task l)) ls)
    (λ l i.
    let f = in-filter_parts (λ l. free_row (task l)) l ls i in
    elim (cases_Bool (p l)) [
      | inl t ↦
          let was = in-append_right (task l) (wanted coder p h) (each_once coder (map task (filter p ls))) (at-wanted coder tells n tick p ls l f.0 t) in
          let had : has coder (row_tasks n rows) (task l) ≡ true = sym (have.has (task l) refl) ∙ ch.same (task l) ∙ all (task l) was le in
          absurd (both_ways (free_row (task l)) (not_from_true (has coder (row_tasks n rows) (task l)) had) f.1)
      | inr t ↦ sym (ap (λ b. not b && p' l) t)
    ])
    ∙ sym (filter-swap (λ l. free_row (task l)) new ls))
    ∙ sym (filter-map_swap task free_row (filter new ls)))
    ∙ sym (once-filter_swap coder tells free_row (map task (filter new ls)))
