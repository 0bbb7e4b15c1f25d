-- What is carried, said in the words of the definitions.
use Rattle.std.proofs.Common.{zero, ◌≡◌, ℕ, ◌≤◌, ◌<◌, inl, inr, true, not, ◌||◌, List, [], ◌∷◌, length, refl, sym, ◌∙◌, ap, subst, arith, suc}
use Rattle.std.specs.Prelude.{nat_lt}
use Rattle.std.specs.List.{filter}
use Rattle.std.proofs.lemmas.Bool.{not_from_false, not_from_true, both_ways, or_cases, lt-ltb, le-ltb}
use Rattle.conference_spec.specs.declared.Task.{Task}
use Rattle.conference_spec.specs.Coding.{Coder, Tells}
use Rattle.conference_spec.specs.Feed.{collects}
use Rattle.conference_spec.specs.Tasks.{is_same_task, tasks}
use Rattle.conference_spec.specs.Machine.{Run, Core, is_finished, run_tasks, reached, is_over}
use Rattle.conference_spec.specs.Kept.{collected_runs}
use Rattle.conference_spec.proofs.Members.{In, Once, in-map, in-filter, in-filter_parts, once-filter, length-filter_parts, fewer}
use Rattle.conference_spec.proofs.Wants.{same-decides, wanted-once, wanted-tick}
use Rattle.conference_spec.proofs.Stages.{finished-run}
use Rattle.std.specs.Prelude.{Contains, AllPairs, slice_index_or}
use Rattle.conference_spec.specs.Kept.{Holds}
use Rattle.conference_spec.proofs.Steps.{Kept}
use Rattle.conference_spec.proofs.Events.{over-finished, run-wanted, run-late, finished-tasks, length-map}

pub contains-in : {X : Type 0} (xs : List X) (x : X) → Contains xs x → In x xs
contains-in [] x c = absurd (let lt = c.1 in omega arith)
contains-in {X} (y ∷ xs) x c =
    let at : (k : ℕ) → k < length (y ∷ xs) → slice_index_or (y ∷ xs) k x ≡ x → In x (y ∷ xs) = elim [
      | zero ↦ λ lt e. inl e
      | suc k ↦ λ lt e. inr (contains-in xs x (k, omega arith, e))
    ] in
    at c.0 c.1 c.2

pub in-contains : {X : Type 0} (x : X) (xs : List X) → In x xs → Contains xs x
in-contains x [] i = absurd i
in-contains x (y ∷ xs) (inl e) = (0, omega arith, e)
in-contains x (y ∷ xs) (inr i) = let r = in-contains x xs i in let lt = r.1 in (suc r.0, omega arith, r.2)

pub in-at : {X : Type 0} (xs : List X) (k : ℕ) (d : X) → k < length xs → In (slice_index_or xs k d) xs
in-at [] k d lt = absurd (omega arith)
in-at {X} (y ∷ xs) k d lt =
    let at : (k : ℕ) → k < length (y ∷ xs) → In (slice_index_or (y ∷ xs) k d) (y ∷ xs) = elim [
      | zero ↦ λ lt. inl refl
      | suc k ↦ λ lt. inr (in-at xs k d (omega arith))
    ] in
    at k lt

pub pairs-once : (rs : List Run) → Once (run_tasks rs) → AllPairs (λ a b. a.task ≡ b.task → ⊥) rs
pairs-once [] o i j d lt le = absurd (omega arith)
pairs-once (r ∷ rs) o i j d lt le =
    let P : ℕ → ℕ → Type 0 = λ i j. i < j → j < length (r ∷ rs) → (slice_index_or (r ∷ rs) i d).task ≡ (slice_index_or (r ∷ rs) j d).task → ⊥ in
    let ih = pairs-once rs o.1 in
    let at : (i j : ℕ) → P i j = elim [
      | zero ↦ elim [
        | zero ↦ λ lt le e. omega arith
        | suc j ↦ λ lt le e. o.0 (let Q : Task → Type 0 = λ x. In x (run_tasks rs) in
            subst Q (sym e) (in-map (λ r. r.task) (slice_index_or rs j d) rs (in-at rs j d (omega arith))))
      ]
      | suc i ↦ elim [
        | zero ↦ λ lt le e. omega arith
        | suc j ↦ λ lt le e. ih i j d (omega arith) (omega arith) e
      ]
    ] in
    at i j lt le

-- one run for a task
pub one-run : (rs : List Run) → Once (run_tasks rs) → (r s : Run) → In r rs → In s rs → r.task ≡ s.task → r ≡ s
one-run [] o r s i j e = absurd i
one-run (q ∷ rs) o r s (inl a) (inl b) e = sym a ∙ b
one-run (q ∷ rs) o r s (inl a) (inr j) e =
    let P : Task → Type 0 = λ x. In x (run_tasks rs) in
    absurd (o.0 (subst P (sym (ap (λ x. x.task) a ∙ e)) (in-map (λ r. r.task) s rs j)))
one-run (q ∷ rs) o r s (inr i) (inl b) e =
    let P : Task → Type 0 = λ x. In x (run_tasks rs) in
    absurd (o.0 (subst P (e ∙ sym (ap (λ x. x.task) b)) (in-map (λ r. r.task) r rs i)))
one-run (q ∷ rs) o r s (inr i) (inr j) e = one-run rs o.1 r s i j e

pub told : (coder : Coder) → Tells coder → (c : Core) → Kept coder c → Holds coder c
told coder tells c k =
    let h = c.feed in
    let g = collects h in
    let early = λ (x : Task). nat_lt x.tick g in
    let whole = length-filter_parts early (tasks coder h) in
    let late : List Task = filter (λ x. not (early x)) (tasks coder h) in
    let n : length (run_tasks c.runs) ≡ length c.runs = length-map (λ r. r.task) c.runs in
    let most : length (run_tasks c.runs) ≤ length late = fewer (is_same_task coder) (same-decides coder tells) (run_tasks c.runs) late k.carried.once
    (λ x i. let le = run-late coder c k.carried x i in
    in-filter (λ x. not (early x)) x (tasks coder h) (run-wanted coder tells c k.carried x i) (not_from_false (early x) (le-ltb x.tick g le))) in
    let over = λ (x : Task). nat_lt x.tick g || is_over coder c.runs h x.tick in
    let done : List Task = filter over (tasks coder h) in
    let split = length-filter_parts early done in
    let early_done : length (filter early done) ≤ collected_runs coder h = fewer (is_same_task coder) (same-decides coder tells) (filter early done) (filter early (tasks coder h))
    (once-filter early done (once-filter over (tasks coder h) (wanted-once coder tells (λ l. true) h)))
    (λ x i. let a = in-filter_parts early x done i in let b = in-filter_parts over x (tasks coder h) a.0 in in-filter early x (tasks coder h) b.0 a.1) in
    let late_done : length (filter (λ x. not (early x)) done) ≤ length (run_tasks c.runs) = fewer (is_same_task coder) (same-decides coder tells) (filter (λ x. not (early x)) done) (run_tasks c.runs)
    (once-filter (λ x. not (early x)) done (once-filter over (tasks coder h) (wanted-once coder tells (λ l. true) h)))
    (λ x i.
    let a = in-filter_parts (λ x. not (early x)) x done i in
    let b = in-filter_parts over x (tasks coder h) a.0 in
    elim (or_cases (early x) (is_over coder c.runs h x.tick) b.1) [
      | inl t ↦ absurd (both_ways (not (early x)) (not_from_true (early x) t) a.1)
      | inr t ↦ finished-tasks c.runs x (over-finished coder tells c.runs h x.tick t x b.0 refl)
    ]) in
    let counted = k.carried.count in
    record {
      legal = k.carried.legal;
      once = pairs-once c.runs k.carried.once;
      reached_run = λ x. (
        (λ i. in-contains x (run_tasks c.runs) (k.all_numbered x (contains-in (reached coder c.runs h) x i))),
        (λ i. in-contains x (reached coder c.runs h) (k.carried.all_reached x (contains-in (run_tasks c.runs) x i))),
      );
      over_run = λ j le t. record {
        each_run = λ x i e. in-contains x (run_tasks c.runs) (finished-tasks c.runs x (over-finished coder tells c.runs h j t x (contains-in (tasks coder h) x i) e));
        no_other = λ r i e.
            let ir = contains-in c.runs r i in
            let there = run-wanted coder tells c k.carried r.task (in-map (λ r. r.task) r c.runs ir) in
            let f = finished-run c.runs r.task (over-finished coder tells c.runs h j t r.task there e) in (
              in-contains r.task (tasks coder h) there,
              ap (λ r. is_finished r.stage) (one-run c.runs k.carried.once r f.0 ir f.1 (sym f.3)) ∙ f.2,
            );
      };
      counted = record {
        count = counted;
        at_least = omega arith;
        at_most = omega arith;
        at_end = λ e.
            let none : length late ≤ length {A = Task} [] = fewer (is_same_task coder) (same-decides coder tells) late []
            (once-filter (λ x. not (early x)) (tasks coder h) (wanted-once coder tells (λ l. true) h))
            (λ x i.
            let a = in-filter_parts (λ x. not (early x)) x (tasks coder h) i in
            let lt = wanted-tick coder (λ l. true) h x a.0 in
            both_ways (not (early x)) (not_from_true (early x) (lt-ltb x.tick g (omega arith))) a.1) in
            omega arith;
      };
    }
