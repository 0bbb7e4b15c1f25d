-- What every event keeps, in the form that is carried from event to event.
use Rattle.std.proofs.Common.{◌≡◌, ℕ, ◌+◌, ◌≤◌, inl, inr, Bool, true, false, not, ◌||◌, ◌&&◌, List, [], ◌∷◌, ◌++◌, length, map, refl, sym, ◌∙◌, ap, subst, arith, Option, Some, None, length-append}
use Rattle.std.specs.Prelude.{◌==◌, nat_lt, nat_le, find}
use Rattle.std.specs.List.{filter, list_all}
use Rattle.std.proofs.lemmas.Bool.{cases_Bool, cond_both, cond-false, not_from_false, not_from_true, both_ways, eqb-true, ltb-true, le-ltb, and_parts, and_from}
use Rattle.conference_spec.specs.declared.Entry.{Entry}
use Rattle.conference_spec.specs.declared.Entry.TheVariants.{Join, Leave, Close, Collect, Cut, End}
use Rattle.conference_spec.specs.declared.Task.{Task}
use Rattle.conference_spec.specs.declared.Stage.{Stage}
use Rattle.conference_spec.specs.declared.Stage.TheVariants.{Waiting, Out, Finished}
use Rattle.conference_spec.specs.Coding.{Coder, Tells}
use Rattle.conference_spec.specs.Feed.{Feed, Listener, listeners, closes, collects, is_legal, may_follow}
use Rattle.conference_spec.specs.Tasks.{task_of, tasks_of, is_same_task, each_once, wanted, tasks}
use Rattle.conference_spec.specs.Machine.{Run, Core, waits, is_out, is_finished, has, run_tasks, finished_tasks, has_passed, reached, unnumbered, numbered, with_reached, moved, with_stage, next_waiting, holds_out, appended, claimed, begun}
use Rattle.conference_spec.specs.Kept.{collected_runs}
use Rattle.conference_spec.proofs.Members.{In, Once, in-append_left, in-append_right, in-append_cases, in-filter, in-filter_parts, any-in, once-filter, once-append}
use Rattle.conference_spec.proofs.Wants.{same-decides, wanted-once, wants-at}
use Rattle.conference_spec.proofs.Stages.{rise-append, rise-numbered, unique, tasks-moved, rise-moved, length-moved, tasks-numbered, length-numbered, map-append, filter-append', append-nil', finished-more, has-in, in-has, reached-parts, in-reached, reached-more, finished-grows, finished-same, waiting-open, out-open}
pub use Rattle.conference_spec.specs.Members.{Carried, Kept}

pub kept-begun : (coder : Coder) → Kept coder begun
kept-begun coder = record {
  carried = record { legal = refl; once = tt; all_reached = λ x i. i; count = refl; numbers = omega arith };
  all_numbered = λ x i. i;
}

-- numbering what is reached
pub numbered-kept : (coder : Coder) → Tells coder → (c : Core) → Carried coder c → Kept coder (with_reached coder c)
numbered-kept coder tells c k =
    let new : List Task = unnumbered coder c.runs c.feed in
    let runs' : List Run = c.runs ++ numbered c.issued new in
    let free = λ (x : Task). not (has coder (run_tasks c.runs) x) in
    let told : run_tasks runs' ≡ run_tasks c.runs ++ new =
    map-append (λ r. r.task) c.runs (numbered c.issued new) ∙ ap (λ ts. run_tasks c.runs ++ ts) (tasks-numbered c.issued new) in
    let done : finished_tasks runs' ≡ finished_tasks c.runs = finished-more c.runs c.issued new in
    let at : reached coder runs' c.feed ≡ reached coder c.runs c.feed =
    ap (λ ts. filter (λ x. nat_le (collects c.feed) x.tick) (wanted coder (λ l. list_all (λ x. nat_lt x.tick (collects c.feed) || has coder ts x) (tasks_of coder l)) c.feed)) done in
    let In' : List Task → Task → Type 0 = λ ts x. In x ts in
    record {
      carried = record {
        legal = k.legal;
        once = subst Once (sym told) (once-append (run_tasks c.runs) new k.once
            (once-filter free (reached coder c.runs c.feed) (once-filter (λ x. nat_le (collects c.feed) x.tick) (wanted coder (has_passed coder (collects c.feed) c.runs) c.feed) (wanted-once coder tells (has_passed coder (collects c.feed) c.runs) c.feed)))
            (λ x a b. both_ways (free x) (not_from_true (has coder (run_tasks c.runs) x) (in-has coder tells (run_tasks c.runs) x a)) (in-filter_parts free x (reached coder c.runs c.feed) b).1));
        all_reached = λ x i.
            let P : List Task → Type 0 = λ ts. In x ts in
            subst P (sym at) (elim (in-append_cases x (run_tasks c.runs) new (subst P told i)) [
              | inl a ↦ k.all_reached x a
              | inr b ↦ (in-filter_parts free x (reached coder c.runs c.feed) b).0
            ]);
        count = let e = length-append c.runs (numbered c.issued new) in let f = length-numbered c.issued new in let g = k.count in omega arith;
        numbers = rise-append 0 c.issued (c.issued + length new) c.runs (numbered c.issued new) k.numbers (rise-numbered c.issued new);
      };
      all_numbered = λ x i.
          let P : List Task → Type 0 = λ ts. In x ts in
          let i' = subst P at i in
          subst P (sym told) (elim (cases_Bool (has coder (run_tasks c.runs) x)) [
            | inl t ↦ in-append_left x (run_tasks c.runs) new (has-in coder tells (run_tasks c.runs) x t)
            | inr t ↦ in-append_right x (run_tasks c.runs) new (in-filter free x (reached coder c.runs c.feed) i' (not_from_false (has coder (run_tasks c.runs) x) t))
          ]);
    }

-- a stage that finishes nothing and unfinishes nothing
pub stage-kept : (coder : Coder) (c : Core) (n : ℕ) (stage : Stage) → is_finished stage ≡ false
    → ((r : Run) → In r c.runs → r.number ≡ n → is_finished r.stage ≡ false) → Kept coder c → Kept coder (with_stage c n stage)
stage-kept coder c n stage open' none k =
    let runs' : List Run = map (moved n stage) c.runs in
    let told : run_tasks runs' ≡ run_tasks c.runs = tasks-moved n stage c.runs in
    let done : finished_tasks runs' ≡ finished_tasks c.runs = finished-same n stage c.runs open' none in
    let at : reached coder runs' c.feed ≡ reached coder c.runs c.feed =
    ap (λ ts. filter (λ x. nat_le (collects c.feed) x.tick) (wanted coder (λ l. list_all (λ x. nat_lt x.tick (collects c.feed) || has coder ts x) (tasks_of coder l)) c.feed)) done in
    record {
      carried = record {
        legal = k.carried.legal;
        once = subst Once (sym told) k.carried.once;
        all_reached = λ x i. let P : List Task → Type 0 = λ ts. In x ts in subst P (sym at) (k.carried.all_reached x (subst P told i));
        count = let e = length-moved n stage c.runs in let g = k.carried.count in omega arith;
        numbers = rise-moved n stage 0 c.issued c.runs k.carried.numbers;
      };
      all_numbered = λ x i. let P : List Task → Type 0 = λ ts. In x ts in subst P (sym told) (k.all_numbered x (subst P at i));
    }

pub find-in : {X : Type 0} (p : X → Bool) (xs : List X) (x : X) → find p xs ≡ Some x → In x xs × (p x ≡ true)
find-in p [] x e = cc
find-in {X} p (y ∷ xs) x e =
    let P : Option X → Type 0 = λ o. o ≡ Some x → In x (y ∷ xs) × (p x ≡ true) in
    cond_both (p y) (Some y) (find p xs) P
    (λ t g. let at : y ≡ x = cc in (inl at, ap p (sym at) ∙ t))
    (λ t g. let r = find-in p xs x g in (inr r.0, r.1)) e

pub claimed-kept : (coder : Coder) (c : Core) (o : Option Run) → next_waiting c.runs ≡ o → Kept coder c → Kept coder (claimed c o)
claimed-kept coder c None e k = k
claimed-kept coder c (Some r) e k =
    let f = find-in (λ r. waits r.stage) c.runs r e in
    stage-kept coder c r.number Out refl
    (λ q i same. let one = unique 0 c.issued c.runs k.carried.numbers q r i f.0 same in
    ap (λ s. is_finished s.stage) one ∙ waiting-open r.stage f.1)
    k

-- the run that is out, by its number and task
pub out-run : (coder : Coder) → Tells coder → (rs : List Run) (n : ℕ) (x : Task) → holds_out coder rs n x ≡ true
    → (r : Run) × In r rs × (r.number ≡ n) × (r.task ≡ x) × (is_out r.stage ≡ true)
out-run coder tells rs n x h =
    let r = any-in (λ r. (r.number == n) && (is_same_task coder r.task x && is_out r.stage)) rs h in
    let a = and_parts (r.0.number == n) (is_same_task coder r.0.task x && is_out r.0.stage) r.2 in
    let b = and_parts (is_same_task coder r.0.task x) (is_out r.0.stage) a.1 in
    (r.0, r.1, eqb-true r.0.number n a.0, (same-decides coder tells r.0.task x).0 b.0, b.1)

pub back-kept : (coder : Coder) → Tells coder → (c : Core) (n : ℕ) (x : Task) → holds_out coder c.runs n x ≡ true → Kept coder c → Kept coder (with_stage c n Waiting)
back-kept coder tells c n x h k =
    let r = out-run coder tells c.runs n x h in
    stage-kept coder c n Waiting refl
    (λ q i same. let one = unique 0 c.issued c.runs k.carried.numbers q r.0 i r.1 (same ∙ sym r.2) in
    ap (λ s. is_finished s.stage) one ∙ out-open r.0.stage r.4)
    k

pub publish-kept : (coder : Coder) → Tells coder → (c : Core) (n : ℕ) → Kept coder c → Kept coder (with_reached coder (with_stage c n Finished))
publish-kept coder tells c n k =
    let runs' : List Run = map (moved n Finished) c.runs in
    let told : run_tasks runs' ≡ run_tasks c.runs = tasks-moved n Finished c.runs in
    numbered-kept coder tells (with_stage c n Finished) (record {
      legal = k.carried.legal;
      once = subst Once (sym told) k.carried.once;
      all_reached = λ x i. let P : List Task → Type 0 = λ ts. In x ts in
          reached-more coder tells c.runs runs' c.feed (finished-grows n c.runs) x (k.carried.all_reached x (subst P told i));
      count = let e = length-moved n Finished c.runs in let g = k.carried.count in omega arith;
      numbers = rise-moved n Finished 0 c.issued c.runs k.carried.numbers;
    })

-- no more is collected than was closed
pub collects-closes : (coder : Coder) (h : Feed) → is_legal coder h ≡ true → collects h ≤ closes h
collects-closes coder [] l = omega arith
collects-closes coder (Collect ∷ h) l =
    let p = and_parts (nat_lt (collects h) (closes h)) (is_legal coder h) l in
    let lt = ltb-true (collects h) (closes h) p.0 in omega arith
collects-closes coder (Close tick ∷ h) l = let ih = collects-closes coder h (and_parts (may_follow coder h (Close tick)) (is_legal coder h) l).1 in omega arith
collects-closes coder (Join spec ∷ h) l = collects-closes coder h (and_parts (may_follow coder h (Join spec)) (is_legal coder h) l).1
collects-closes coder (Leave m ∷ h) l = collects-closes coder h (and_parts (may_follow coder h (Leave m)) (is_legal coder h) l).1
collects-closes coder (End ∷ h) l = collects-closes coder h (and_parts (may_follow coder h End) (is_legal coder h) l).1
collects-closes coder (Cut ∷ h) l = collects-closes coder h (and_parts (may_follow coder h Cut) (is_legal coder h) l).1

pub filter-none : {X : Type 0} (p : X → Bool) (xs : List X) → ((x : X) → In x xs → p x ≡ false) → filter p xs ≡ []
filter-none p [] h = refl
filter-none p (x ∷ xs) h = cond-false (p x) (x ∷ filter p xs) (filter p xs) (h x (inl refl)) ∙ filter-none p xs (λ y i. h y (inr i))

pub close-kept : (coder : Coder) → Tells coder → (c : Core) (tick : _) → may_follow coder c.feed (Close tick) ≡ true → Kept coder c → Kept coder (with_reached coder (appended c (Close tick)))
close-kept coder tells c tick may k =
    let h = c.feed in
    let p = has_passed coder (collects h) c.runs in
    let here = λ (q : Listener → Bool). each_once coder (map (task_of coder (closes h) tick) (filter q (listeners coder h))) in
    let below = collects-closes coder h k.carried.legal in
    let late = λ (x : Task). nat_lt x.tick (collects h) in
    let none : filter late (here (λ l. true)) ≡ [] = filter-none late (here (λ l. true)) (λ x i.
    let at = wants-at coder (closes h) tick (λ l. true) (listeners coder h) x i in
    let e : closes h ≡ x.tick = ap (λ y. y.tick) at.3 in
    le-ltb x.tick (collects h) (omega arith)) in
    let gone : collected_runs coder (Close tick ∷ h) ≡ collected_runs coder h =
    ap length (filter-append' late (tasks coder h) (here (λ l. true)) ∙ ap (λ ts. filter late (tasks coder h) ++ ts) none ∙ append-nil' (filter late (tasks coder h))) in
    numbered-kept coder tells (appended c (Close tick)) (record {
      legal = and_from (may_follow coder h (Close tick)) (is_legal coder h) may k.carried.legal;
      once = k.carried.once;
      all_reached = λ x i.
          let parts = reached-parts coder c.runs h x (k.carried.all_reached x i) in
          in-reached coder c.runs (Close tick ∷ h) x (in-append_left x (wanted coder p h) (here p) parts.0) parts.1;
      count = let g = k.carried.count in omega (arith, gone);
      numbers = k.carried.numbers;
    })

-- an entry that no listener's tick and no run depends on
pub quiet-kept : (coder : Coder) (c : Core) (e : Entry) → may_follow coder c.feed e ≡ true
    → reached coder c.runs (e ∷ c.feed) ≡ reached coder c.runs c.feed → collected_runs coder (e ∷ c.feed) ≡ collected_runs coder c.feed
    → Kept coder c → Kept coder (appended c e)
quiet-kept coder c e may same gone k = record {
  carried = record {
    legal = and_from (may_follow coder c.feed e) (is_legal coder c.feed) may k.carried.legal;
    once = k.carried.once;
    all_reached = λ x i. let P : List Task → Type 0 = λ ts. In x ts in subst P (sym same) (k.carried.all_reached x i);
    count = k.carried.count ∙ ap (λ n. n + length c.runs) (sym gone);
    numbers = k.carried.numbers;
  };
  all_numbered = λ x i. let P : List Task → Type 0 = λ ts. In x ts in k.all_numbered x (subst P same i);
}
