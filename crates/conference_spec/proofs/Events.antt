-- A collect, and every list of events.
use Rattle.std.proofs.Common.{◌≡◌, ℕ, ◌+◌, ◌≤◌, inl, inr, Bool, true, not, ◌||◌, cond, List, [], ◌∷◌, length, map, refl, sym, ◌∙◌, ap, subst, arith}
use Rattle.std.specs.Prelude.{◌==◌, nat_lt}
use Rattle.std.specs.List.{filter}
use Rattle.std.proofs.lemmas.Bool.{cases_Bool, cond_both, cond-true, cond-false, not_from_false, not_from_true, both_ways, or_cases, eqb-true, eqb-false, eq-eqb, ne_eqb, ltb-true, ltb-false, lt-ltb, le-ltb, and_parts, and_from}
use Rattle.conference_spec.specs.declared.Entry.{Entry}
use Rattle.conference_spec.specs.declared.Entry.TheVariants.{Join, Leave, Close, Collect, Cut, End}
use Rattle.conference_spec.specs.declared.Task.{Task}
use Rattle.conference_spec.specs.declared.Stage.TheVariants.{Waiting, Finished}
use Rattle.conference_spec.specs.Coding.{Coder, Tells}
use Rattle.conference_spec.specs.Feed.{Feed, closes, collects, is_legal}
use Rattle.conference_spec.specs.Tasks.{tasks_of, is_same_task, tasks}
use Rattle.conference_spec.specs.Machine.{Run, Core, Event, Enters, Claim, Publish, GiveBack, has, run_tasks, finished_tasks, is_done, has_passed, with_reached, with_stage, next_waiting, holds_out, is_over, accepts, entered, next, core_after}
use Rattle.conference_spec.proofs.Members.{In, Once, in-map, in-map_cases, in-filter, in-filter_parts, all-in, in-all, once-filter, length-filter_parts, fewer}
use Rattle.conference_spec.proofs.Wants.{same-decides, wanted-more, wanted-once, wanted-tasks}
use Rattle.conference_spec.proofs.Stages.{rise-filter, finished-run, run-finished, has-in, done-cases, done-collected, done-finished, reached-parts, in-reached}
use Rattle.conference_spec.proofs.Steps.{Carried, Kept, kept-begun, claimed-kept, back-kept, publish-kept, close-kept, quiet-kept}

-- two tests that agree on a list keep the same of it
pub filter-agree : {X : Type 0} (p q : X → Bool) (xs : List X) → ((x : X) → In x xs → p x ≡ q x) → filter p xs ≡ filter q xs
filter-agree p q [] h = refl
filter-agree p q (x ∷ xs) h =
    ap (λ b. cond b (x ∷ filter p xs) (filter p xs)) (h x (inl refl))
    ∙ ap (λ ys. cond (q x) (x ∷ ys) ys) (filter-agree p q xs (λ y i. h y (inr i)))

-- the tasks below the next tick are those below this one, and those at it
pub length-below_more : (g : ℕ) (xs : List Task)
    → length (filter (λ x. nat_lt x.tick (g + 1)) xs) ≡ length (filter (λ x. nat_lt x.tick g) xs) + length (filter (λ x. x.tick == g) xs)
length-below_more g [] = refl
length-below_more g (x ∷ xs) =
    let ih = length-below_more g xs in
    let P = λ (y : Task). nat_lt y.tick (g + 1) in
    let Q = λ (y : Task). nat_lt y.tick g in
    let R = λ (y : Task). y.tick == g in
    elim (cases_Bool (Q x)) [
      | inl q ↦
          let lt = ltb-true x.tick g q in
          let a = cond-true (P x) (x ∷ filter P xs) (filter P xs) (lt-ltb x.tick (g + 1) (omega arith)) in
          let b = cond-true (Q x) (x ∷ filter Q xs) (filter Q xs) q in
          let c = cond-false (R x) (x ∷ filter R xs) (filter R xs) (ne_eqb x.tick g (λ e. omega arith)) in
          omega (arith, ap length a, ap length b, ap length c)
      | inr q ↦
          let ge = ltb-false x.tick g q in
          let b = cond-false (Q x) (x ∷ filter Q xs) (filter Q xs) q in
          elim (cases_Bool (R x)) [
            | inl r ↦
                let e = eqb-true x.tick g r in
                let a = cond-true (P x) (x ∷ filter P xs) (filter P xs) (lt-ltb x.tick (g + 1) (omega arith)) in
                let c = cond-true (R x) (x ∷ filter R xs) (filter R xs) r in
                omega (arith, ap length a, ap length b, ap length c)
            | inr r ↦
                let ne = eqb-false x.tick g r in
                let a = cond-false (P x) (x ∷ filter P xs) (filter P xs) (le-ltb x.tick (g + 1) (omega arith)) in
                let c = cond-false (R x) (x ∷ filter R xs) (filter R xs) r in
                omega (arith, ap length a, ap length b, ap length c)
          ]
    ]

pub length-map : {X Y : Type 0} (f : X → Y) (xs : List X) → length (map f xs) ≡ length xs
length-map f [] = refl
length-map f (x ∷ xs) = let ih = length-map f xs in omega arith

pub filter-map : {X Y : Type 0} (f : X → Y) (p : Y → Bool) (xs : List X) → filter p (map f xs) ≡ map f (filter (λ x. p (f x)) xs)
filter-map f p [] = refl
filter-map {X} f p (x ∷ xs) =
    let ih = filter-map f p xs in
    let q = λ (y : X). p (f y) in
    elim (cases_Bool (p (f x))) [
      | inl t ↦ cond-true (p (f x)) (f x ∷ filter p (map f xs)) (filter p (map f xs)) t ∙ ap (λ zs. f x ∷ zs) ih
          ∙ ap (map f) (sym (cond-true (q x) (x ∷ filter q xs) (filter q xs) t))
      | inr t ↦ cond-false (p (f x)) (f x ∷ filter p (map f xs)) (filter p (map f xs)) t ∙ ih
          ∙ ap (map f) (sym (cond-false (q x) (x ∷ filter q xs) (filter q xs) t))
    ]

-- of a tick that is over, each task is finished
pub over-finished : (coder : Coder) → Tells coder → (rs : List Run) (h : Feed) (k : ℕ) → is_over coder rs h k ≡ true
    → (x : Task) → In x (tasks coder h) → x.tick ≡ k → In x (finished_tasks rs)
over-finished coder tells rs h k over x i e =
    elim (or_cases (not (x.tick == k)) (has coder (finished_tasks rs) x) (all-in (λ x. not (x.tick == k) || has coder (finished_tasks rs) x) x (tasks coder h) over i)) [
      | inl a ↦ absurd (both_ways (not (x.tick == k)) (not_from_true (x.tick == k) (eq-eqb x.tick k e)) a)
      | inr b ↦ has-in coder tells (finished_tasks rs) x b
    ]

-- each run's task is wanted by somebody
pub run-wanted : (coder : Coder) → Tells coder → (c : Core) → Carried coder c → (x : Task) → In x (run_tasks c.runs) → In x (tasks coder c.feed)
run-wanted coder tells c k x i =
    let parts = reached-parts coder c.runs c.feed x (k.all_reached x i) in
    wanted-tasks coder tells (has_passed coder (collects c.feed) c.runs) c.feed x parts.0

pub run-late : (coder : Coder) (c : Core) → Carried coder c → (x : Task) → In x (run_tasks c.runs) → collects c.feed ≤ x.tick
run-late coder c k x i = (reached-parts coder c.runs c.feed x (k.all_reached x i)).1

pub finished-tasks : (rs : List Run) (x : Task) → In x (finished_tasks rs) → In x (run_tasks rs)
finished-tasks rs x i =
    let f = finished-run rs x i in
    let P : Task → Type 0 = λ y. In y (run_tasks rs) in
    subst P f.3 (in-map (λ r. r.task) f.0 rs f.1)

pub collect-kept : (coder : Coder) → Tells coder → (c : Core) → nat_lt (collects c.feed) (closes c.feed) ≡ true
    → is_over coder c.runs c.feed (collects c.feed) ≡ true → Kept coder c → Kept coder (entered coder c Collect)
collect-kept coder tells c may over k =
    let h = c.feed in
    let g = collects h in
    let other = λ (r : Run). not (r.task.tick == g) in
    let kept = filter other c.runs in
    let same_tick = λ (x : Task). x.tick == g in
    let finished_kept : (x : Task) → In x (finished_tasks c.runs) → (x.tick ≡ g → ⊥) → In x (finished_tasks kept) = λ x i ne.
    let f = finished-run c.runs x i in
    let at : f.0.task.tick ≡ x.tick = ap (λ y. y.tick) f.3 in
    let P : Task → Type 0 = λ y. In y (finished_tasks kept) in
    subst P f.3 (run-finished kept f.0 (in-filter other f.0 c.runs f.1 (not_from_false (f.0.task.tick == g) (ne_eqb f.0.task.tick g (λ e. ne (sym at ∙ e))))) f.2) in
    let kept_finished : (x : Task) → In x (finished_tasks kept) → In x (finished_tasks c.runs) = λ x i.
    let f = finished-run kept x i in
    let P : Task → Type 0 = λ y. In y (finished_tasks c.runs) in
    subst P f.3 (run-finished c.runs f.0 (in-filter_parts other f.0 c.runs f.1).0 f.2) in
    let kept_run : (x : Task) → In x (run_tasks kept) → In x (run_tasks c.runs) × (x.tick ≡ g → ⊥) = λ x i.
    let m = in-map_cases (λ r. r.task) x kept i in
    let f = in-filter_parts other m.0 c.runs m.1 in
    let at : m.0.task.tick ≡ x.tick = ap (λ y. y.tick) m.2 in
    let P : Task → Type 0 = λ y. In y (run_tasks c.runs) in (
      subst P m.2 (in-map (λ r. r.task) m.0 c.runs f.0),
      λ e. both_ways (other m.0) (not_from_true (m.0.task.tick == g) (eq-eqb m.0.task.tick g (at ∙ e))) f.1,
    ) in
    let run_kept : (x : Task) → In x (run_tasks c.runs) → (x.tick ≡ g → ⊥) → In x (run_tasks kept) = λ x i ne.
    let m = in-map_cases (λ r. r.task) x c.runs i in
    let at : m.0.task.tick ≡ x.tick = ap (λ y. y.tick) m.2 in
    let P : Task → Type 0 = λ y. In y (run_tasks kept) in
    subst P m.2 (in-map (λ r. r.task) m.0 kept (in-filter other m.0 c.runs m.1 (not_from_false (m.0.task.tick == g) (ne_eqb m.0.task.tick g (λ e. ne (sym at ∙ e)))))) in
    let there : List Task = filter same_tick (run_tasks c.runs) in
    let owed : List Task = filter same_tick (tasks coder h) in
    let most : length there ≤ length owed = fewer (is_same_task coder) (same-decides coder tells) there owed (once-filter same_tick (run_tasks c.runs) k.carried.once)
    (λ x i. let f = in-filter_parts same_tick x (run_tasks c.runs) i in in-filter same_tick x (tasks coder h) (run-wanted coder tells c k.carried x f.0) f.1) in
    let least : length owed ≤ length there = fewer (is_same_task coder) (same-decides coder tells) owed there (once-filter same_tick (tasks coder h) (wanted-once coder tells (λ l. true) h))
    (λ x i. let f = in-filter_parts same_tick x (tasks coder h) i in
    in-filter same_tick x (run_tasks c.runs) (finished-tasks c.runs x (over-finished coder tells c.runs h g over x f.0 (eqb-true x.tick g f.1))) f.1) in
    record {
      carried = record {
        legal = and_from (nat_lt g (closes h)) (is_legal coder h) may k.carried.legal;
        once =
            let e : run_tasks kept ≡ filter (λ x. not (same_tick x)) (run_tasks c.runs) = sym (filter-map (λ r. r.task) (λ x. not (same_tick x)) c.runs) in
            subst Once (sym e) (once-filter (λ x. not (same_tick x)) (run_tasks c.runs) k.carried.once);
        all_reached = λ x i.
            let r = kept_run x i in
            let parts = reached-parts coder c.runs h x (k.carried.all_reached x r.0) in
            let ne = r.1 in
            let le = parts.1 in
            in-reached coder kept (Collect ∷ h) x
            (wanted-more coder tells (has_passed coder g c.runs) (has_passed coder (g + 1) kept) h
            (λ l own t. in-all (is_done coder (g + 1) kept) (tasks_of coder l) (λ y j.
            elim (done-cases coder tells g c.runs y (all-in (is_done coder g c.runs) y (tasks_of coder l) t j)) [
              | inl a ↦ done-collected coder (g + 1) kept y (omega arith)
              | inr b ↦ elim (cases_Bool (y.tick == g)) [
                | inl s ↦ done-collected coder (g + 1) kept y (let e = eqb-true y.tick g s in omega arith)
                | inr s ↦ done-finished coder tells (g + 1) kept y (finished_kept y b (eqb-false y.tick g s))
              ]
            ]))
            x parts.0)
            (omega arith);
        count =
            let a = k.carried.count in
            let b : length c.runs ≡ length (filter (λ r. r.task.tick == g) c.runs) + length kept = length-filter_parts (λ r. r.task.tick == g) c.runs in
            let d : length there ≡ length (filter (λ r. r.task.tick == g) c.runs) =
            ap length (filter-map (λ r. r.task) same_tick c.runs) ∙ length-map (λ r. r.task) (filter (λ r. r.task.tick == g) c.runs) in
            let e = length-below_more g (tasks coder h) in
            omega arith;
        numbers = rise-filter other 0 c.issued c.runs k.carried.numbers;
      };
      all_numbered = λ x i.
          let parts = reached-parts coder kept (Collect ∷ h) x i in
          let le = parts.1 in
          let before = wanted-more coder tells (has_passed coder (g + 1) kept) (has_passed coder g c.runs) h
          (λ l own t. in-all (is_done coder g c.runs) (tasks_of coder l) (λ y j.
          elim (done-cases coder tells (g + 1) kept y (all-in (is_done coder (g + 1) kept) y (tasks_of coder l) t j)) [
            | inl a ↦ elim (cases_Bool (y.tick == g)) [
              | inl s ↦ done-finished coder tells g c.runs y (over-finished coder tells c.runs h g over y (own y j) (eqb-true y.tick g s))
              | inr s ↦ let ne = eqb-false y.tick g s in done-collected coder g c.runs y (omega arith)
            ]
            | inr b ↦ done-finished coder tells g c.runs y (kept_finished y b)
          ]))
          x parts.0 in
          run_kept x (k.all_numbered x (in-reached coder c.runs h x before (omega arith))) (λ e. omega arith);
    }

pub entered-kept : (coder : Coder) → Tells coder → (c : Core) (e : Entry) → accepts coder c e ≡ true → Kept coder c → Kept coder (entered coder c e)
entered-kept coder tells c (Join spec) may k = quiet-kept coder c (Join spec) may refl refl k
entered-kept coder tells c (Leave m) may k = quiet-kept coder c (Leave m) may refl refl k
entered-kept coder tells c (Close tick) may k = close-kept coder tells c tick may k
entered-kept coder tells c Collect may k =
    let p = and_parts (nat_lt (collects c.feed) (closes c.feed)) (is_over coder c.runs c.feed (collects c.feed)) may in
    collect-kept coder tells c p.0 p.1 k
entered-kept coder tells c End may k = quiet-kept coder c End may refl refl k
entered-kept coder tells c Cut may k = quiet-kept coder c Cut may refl refl k

-- each event keeps it
pub next-kept : (coder : Coder) → Tells coder → (c : Core) (e : Event) → Kept coder c → Kept coder (next coder c e)
next-kept coder tells c (Enters e) k =
    cond_both (accepts coder c e) (entered coder c e) c (λ d. Kept coder d) (λ t. entered-kept coder tells c e t k) (λ t. k)
next-kept coder tells c Claim k = claimed-kept coder c (next_waiting c.runs) refl k
next-kept coder tells c (Publish n x) k =
    cond_both (holds_out coder c.runs n x) (with_reached coder (with_stage c n Finished)) c (λ d. Kept coder d) (λ t. publish-kept coder tells c n k) (λ t. k)
next-kept coder tells c (GiveBack n x) k =
    cond_both (holds_out coder c.runs n x) (with_stage c n Waiting) c (λ d. Kept coder d) (λ t. back-kept coder tells c n x t k) (λ t. k)

pub always-kept : (coder : Coder) → Tells coder → (events : List Event) → Kept coder (core_after coder events)
always-kept coder tells [] = kept-begun coder
always-kept coder tells (e ∷ es) = next-kept coder tells (core_after coder es) e (always-kept coder tells es)
