-- Runs by rising number, their stages, and what is reached.
use Rattle.std.proofs.Common.{◌≡◌, ℕ, ◌+◌, ◌≤◌, ◌<◌, ◌⊎◌, inl, inr, Bool, true, false, List, [], ◌∷◌, ◌++◌, length, map, refl, sym, ◌∙◌, ap, subst, arith}
use Rattle.std.specs.Prelude.{◌==◌, nat_lt, nat_le}
use Rattle.std.specs.List.{filter}
use Rattle.std.proofs.lemmas.Bool.{cases_Bool, cond_both, cond-true, cond-false, or_cases, or_left, or_right, eqb-true, ltb-true, lt-ltb, leb-true, le-leb, false≢true}
use Rattle.conference_spec.specs.declared.Task.{Task}
use Rattle.conference_spec.specs.declared.Stage.{Stage}
use Rattle.conference_spec.specs.declared.Stage.TheVariants.{Waiting, Out, Finished}
use Rattle.conference_spec.specs.Coding.{Coder, Tells}
use Rattle.conference_spec.specs.Feed.{Feed, collects}
use Rattle.conference_spec.specs.Tasks.{tasks_of, is_same_task, wanted}
use Rattle.conference_spec.specs.Machine.{Run, waits, is_out, is_finished, has, run_tasks, finished_tasks, is_done, has_passed, reached, numbered, moved}
use Rattle.conference_spec.proofs.Members.{In, in-map, in-map_cases, in-filter, in-filter_parts, any-in, in-any, all-in, in-all}
use Rattle.conference_spec.proofs.Wants.{same-decides, wanted-more}
pub use Rattle.conference_spec.specs.Members.{Rise}

pub rise-bounds : (low high : ℕ) (rs : List Run) → Rise low high rs → low ≤ high
rise-bounds low high [] h = h
rise-bounds low high (r ∷ rs) h = let ih = rise-bounds r.number high rs h.1 in let k = h.0 in omega arith

pub rise-lower : (low low' high : ℕ) (rs : List Run) → low' ≤ low → Rise low high rs → Rise low' high rs
rise-lower low low' high [] le h = omega arith
rise-lower low low' high (r ∷ rs) le h = let k = h.0 in (omega arith, h.1)

pub rise-above : (low high : ℕ) (rs : List Run) → Rise low high rs → (r : Run) → In r rs → low < r.number
rise-above low high [] h r i = absurd i
rise-above low high (s ∷ rs) h r (inl e) = let P : Run → Type 0 = λ q. low < q.number in subst P e h.0
rise-above low high (s ∷ rs) h r (inr i) = let ih = rise-above s.number high rs h.1 r i in let k = h.0 in omega arith

pub rise-append : (low mid high : ℕ) (rs ss : List Run) → Rise low mid rs → Rise mid high ss → Rise low high (rs ++ ss)
rise-append low mid high [] ss a b = rise-lower mid low high ss a b
rise-append low mid high (r ∷ rs) ss a b = (a.0, rise-append r.number mid high rs ss a.1 b)

pub rise-filter : (p : Run → Bool) (low high : ℕ) (rs : List Run) → Rise low high rs → Rise low high (filter p rs)
rise-filter p low high [] h = h
rise-filter p low high (r ∷ rs) h =
    let P : List Run → Type 0 = λ qs. Rise low high qs in
    let ih = rise-filter p r.number high rs h.1 in
    let k = h.0 in
    cond_both (p r) (r ∷ filter p rs) (filter p rs) P (λ t. (k, ih)) (λ t. rise-lower r.number low high (filter p rs) (omega arith) ih)

pub rise-numbered : (n : ℕ) (xs : List Task) → Rise n (n + length xs) (numbered n xs)
rise-numbered n [] = omega arith
rise-numbered n (x ∷ xs) =
    let ih = rise-numbered (n + 1) xs in
    let P : ℕ → Type 0 = λ m. Rise (n + 1) m (numbered (n + 1) xs) in
    let e : (n + 1) + length xs ≡ n + length (x ∷ xs) = omega arith in
    (omega arith, subst P e ih)

-- a number stands at one run
pub unique : (low high : ℕ) (rs : List Run) → Rise low high rs → (r s : Run) → In r rs → In s rs → r.number ≡ s.number → r ≡ s
unique low high [] h r s i j e = absurd i
unique low high (q ∷ rs) h r s (inl a) (inl b) e = sym a ∙ b
unique low high (q ∷ rs) h r s (inl a) (inr j) e =
    let above = rise-above q.number high rs h.1 s j in
    let at : q.number ≡ r.number = ap (λ x. x.number) a in
    absurd (omega arith)
unique low high (q ∷ rs) h r s (inr i) (inl b) e =
    let above = rise-above q.number high rs h.1 r i in
    let at : q.number ≡ s.number = ap (λ x. x.number) b in
    absurd (omega arith)
unique low high (q ∷ rs) h r s (inr i) (inr j) e = unique q.number high rs h.1 r s i j e

-- a change of stage leaves number and task
pub moved-number : (n : ℕ) (stage : Stage) (r : Run) → (moved n stage r).number ≡ r.number
moved-number n stage r =
    cond_both (r.number == n) (record { number = r.number; task = r.task; stage = stage }) r (λ q. q.number ≡ r.number) (λ t. refl) (λ t. refl)

pub moved-task : (n : ℕ) (stage : Stage) (r : Run) → (moved n stage r).task ≡ r.task
moved-task n stage r =
    cond_both (r.number == n) (record { number = r.number; task = r.task; stage = stage }) r (λ q. q.task ≡ r.task) (λ t. refl) (λ t. refl)

pub tasks-moved : (n : ℕ) (stage : Stage) (rs : List Run) → run_tasks (map (moved n stage) rs) ≡ run_tasks rs
tasks-moved n stage [] = refl
tasks-moved n stage (r ∷ rs) =
    ap (λ t. t ∷ run_tasks (map (moved n stage) rs)) (moved-task n stage r) ∙ ap (λ ts. r.task ∷ ts) (tasks-moved n stage rs)

pub rise-moved : (n : ℕ) (stage : Stage) (low high : ℕ) (rs : List Run) → Rise low high rs → Rise low high (map (moved n stage) rs)
rise-moved n stage low high [] h = h
rise-moved n stage low high (r ∷ rs) h =
    let P : ℕ → Type 0 = λ m. (low < m) × Rise m high (map (moved n stage) rs) in
    subst P (sym (moved-number n stage r)) (h.0, rise-moved n stage r.number high rs h.1)

pub length-moved : (n : ℕ) (stage : Stage) (rs : List Run) → length (map (moved n stage) rs) ≡ length rs
length-moved n stage [] = refl
length-moved n stage (r ∷ rs) = let ih = length-moved n stage rs in omega arith

-- what is numbered has those tasks, waits, and is that many
pub tasks-numbered : (n : ℕ) (xs : List Task) → run_tasks (numbered n xs) ≡ xs
tasks-numbered n [] = refl
tasks-numbered n (x ∷ xs) = ap (λ ts. x ∷ ts) (tasks-numbered (n + 1) xs)

pub finished-numbered : (n : ℕ) (xs : List Task) → finished_tasks (numbered n xs) ≡ []
finished-numbered n [] = refl
finished-numbered n (x ∷ xs) = finished-numbered (n + 1) xs

pub length-numbered : (n : ℕ) (xs : List Task) → length (numbered n xs) ≡ length xs
length-numbered n [] = refl
length-numbered n (x ∷ xs) = let ih = length-numbered (n + 1) xs in omega arith

pub map-append : {X Y : Type 0} (f : X → Y) (xs ys : List X) → map f (xs ++ ys) ≡ map f xs ++ map f ys
map-append f [] ys = refl
map-append f (x ∷ xs) ys = ap (λ zs. f x ∷ zs) (map-append f xs ys)

pub filter-append' : {X : Type 0} (p : X → Bool) (xs ys : List X) → filter p (xs ++ ys) ≡ filter p xs ++ filter p ys
filter-append' p [] ys = refl
filter-append' {X} p (x ∷ xs) ys =
    let ih = filter-append' p xs ys in
    elim (cases_Bool (p x)) [
      | inl t ↦ cond-true (p x) (x ∷ filter p (xs ++ ys)) (filter p (xs ++ ys)) t ∙ ap (λ zs. x ∷ zs) ih
          ∙ ap (λ zs. zs ++ filter p ys) (sym (cond-true (p x) (x ∷ filter p xs) (filter p xs) t))
      | inr t ↦ cond-false (p x) (x ∷ filter p (xs ++ ys)) (filter p (xs ++ ys)) t ∙ ih
          ∙ ap (λ zs. zs ++ filter p ys) (sym (cond-false (p x) (x ∷ filter p xs) (filter p xs) t))
    ]

pub append-nil' : {X : Type 0} (xs : List X) → xs ++ [] ≡ xs
append-nil' [] = refl
append-nil' (x ∷ xs) = ap (λ ys. x ∷ ys) (append-nil' xs)

-- new runs finish nothing
pub finished-more : (rs : List Run) (n : ℕ) (xs : List Task) → finished_tasks (rs ++ numbered n xs) ≡ finished_tasks rs
finished-more rs n xs =
    ap run_tasks (filter-append' (λ r. is_finished r.stage) rs (numbered n xs))
    ∙ map-append (λ r. r.task) (filter (λ r. is_finished r.stage) rs) (filter (λ r. is_finished r.stage) (numbered n xs))
    ∙ ap (λ ts. finished_tasks rs ++ ts) (finished-numbered n xs)
    ∙ append-nil' (finished_tasks rs)

-- a finished run's task, and back
pub finished-run : (rs : List Run) (x : Task) → In x (finished_tasks rs) → (r : Run) × In r rs × (is_finished r.stage ≡ true) × (r.task ≡ x)
finished-run rs x h =
    let m = in-map_cases (λ r. r.task) x (filter (λ r. is_finished r.stage) rs) h in
    let f = in-filter_parts (λ r. is_finished r.stage) m.0 rs m.1 in
    (m.0, f.0, f.1, m.2)

pub run-finished : (rs : List Run) (r : Run) → In r rs → is_finished r.stage ≡ true → In r.task (finished_tasks rs)
run-finished rs r i t = in-map (λ q. q.task) r (filter (λ q. is_finished q.stage) rs) (in-filter (λ q. is_finished q.stage) r rs i t)

pub has-in : (coder : Coder) → Tells coder → (xs : List Task) (x : Task) → has coder xs x ≡ true → In x xs
has-in coder tells xs x h =
    let r = any-in (λ y. is_same_task coder y x) xs h in
    let P : Task → Type 0 = λ y. In y xs in
    subst P ((same-decides coder tells r.0 x).0 r.2) r.1

pub in-has : (coder : Coder) → Tells coder → (xs : List Task) (x : Task) → In x xs → has coder xs x ≡ true
in-has coder tells xs x h = in-any (λ y. is_same_task coder y x) x xs h ((same-decides coder tells x x).1 refl)

-- done: collected, or finished
pub done-cases : (coder : Coder) → Tells coder → (gone : ℕ) (rs : List Run) (x : Task) → is_done coder gone rs x ≡ true → (x.tick < gone) ⊎ In x (finished_tasks rs)
done-cases coder tells gone rs x h =
    elim (or_cases (nat_lt x.tick gone) (has coder (finished_tasks rs) x) h) [
      | inl a ↦ inl (ltb-true x.tick gone a)
      | inr b ↦ inr (has-in coder tells (finished_tasks rs) x b)
    ]

pub done-collected : (coder : Coder) (gone : ℕ) (rs : List Run) (x : Task) → x.tick < gone → is_done coder gone rs x ≡ true
done-collected coder gone rs x h = or_left (nat_lt x.tick gone) (has coder (finished_tasks rs) x) (lt-ltb x.tick gone h)

pub done-finished : (coder : Coder) → Tells coder → (gone : ℕ) (rs : List Run) (x : Task) → In x (finished_tasks rs) → is_done coder gone rs x ≡ true
done-finished coder tells gone rs x h = or_right (nat_lt x.tick gone) (has coder (finished_tasks rs) x) (in-has coder tells (finished_tasks rs) x h)

-- what is reached: wanted by those who have passed, and not collected
pub reached-parts : (coder : Coder) (rs : List Run) (h : Feed) (x : Task) → In x (reached coder rs h)
    → In x (wanted coder (has_passed coder (collects h) rs) h) × (collects h ≤ x.tick)
reached-parts coder rs h x i =
    let f = in-filter_parts (λ x. nat_le (collects h) x.tick) x (wanted coder (has_passed coder (collects h) rs) h) i in
    (f.0, leb-true (collects h) x.tick f.1)

pub in-reached : (coder : Coder) (rs : List Run) (h : Feed) (x : Task) → In x (wanted coder (has_passed coder (collects h) rs) h) → collects h ≤ x.tick → In x (reached coder rs h)
in-reached coder rs h x w le = in-filter (λ x. nat_le (collects h) x.tick) x (wanted coder (has_passed coder (collects h) rs) h) w (le-leb (collects h) x.tick le)

-- where more is finished, more is reached
pub reached-more : (coder : Coder) → Tells coder → (rs ss : List Run) (h : Feed) → ((x : Task) → In x (finished_tasks rs) → In x (finished_tasks ss))
    → (x : Task) → In x (reached coder rs h) → In x (reached coder ss h)
reached-more coder tells rs ss h more x i =
    let parts = reached-parts coder rs h x i in
    in-reached coder ss h x
    (wanted-more coder tells (has_passed coder (collects h) rs) (has_passed coder (collects h) ss) h
    (λ l own t. in-all (is_done coder (collects h) ss) (tasks_of coder l) (λ y k.
    elim (done-cases coder tells (collects h) rs y (all-in (is_done coder (collects h) rs) y (tasks_of coder l) t k)) [
      | inl a ↦ done-collected coder (collects h) ss y a
      | inr b ↦ done-finished coder tells (collects h) ss y (more y b)
    ]))
    x parts.0)
    parts.1

-- a run that is moved to Finished stays what it was, and no run ceases to be finished
pub finished-grows : (n : ℕ) (rs : List Run) (x : Task) → In x (finished_tasks rs) → In x (finished_tasks (map (moved n Finished) rs))
finished-grows n rs x h =
    let f = finished-run rs x h in
    let r = f.0 in
    let P : Task → Type 0 = λ y. In y (finished_tasks (map (moved n Finished) rs)) in
    let still : is_finished (moved n Finished r).stage ≡ true =
    cond_both (r.number == n) (record { number = r.number; task = r.task; stage = Finished }) r (λ q. is_finished q.stage ≡ true) (λ t. refl) (λ t. f.2) in
    subst P (moved-task n Finished r ∙ f.3) (run-finished (map (moved n Finished) rs) (moved n Finished r) (in-map (moved n Finished) r rs f.1) still)

-- where no run with the number is finished, another stage than Finished finishes and unfinishes nothing
pub finished-same : (n : ℕ) (stage : Stage) (rs : List Run) → is_finished stage ≡ false → ((r : Run) → In r rs → r.number ≡ n → is_finished r.stage ≡ false)
    → finished_tasks (map (moved n stage) rs) ≡ finished_tasks rs
finished-same n stage [] open' h = refl
finished-same n stage (r ∷ rs) open' h =
    let ih = finished-same n stage rs open' (λ q i. h q (inr i)) in
    let fin = λ (q : Run). is_finished q.stage in
    elim (cases_Bool (r.number == n)) [
      | inl t ↦
          let e : moved n stage r ≡ record { number = r.number; task = r.task; stage = stage } = cond-true (r.number == n) (record { number = r.number; task = r.task; stage = stage }) r t in
          let a : fin (moved n stage r) ≡ false = ap fin e ∙ open' in
          let b : fin r ≡ false = h r (inl refl) (eqb-true r.number n t) in
          ap run_tasks (cond-false (fin (moved n stage r)) (moved n stage r ∷ filter fin (map (moved n stage) rs)) (filter fin (map (moved n stage) rs)) a)
          ∙ ih
          ∙ ap run_tasks (sym (cond-false (fin r) (r ∷ filter fin rs) (filter fin rs) b))
      | inr t ↦
          let e : moved n stage r ≡ r = cond-false (r.number == n) (record { number = r.number; task = r.task; stage = stage }) r t in
          ap (λ q. run_tasks (filter fin (q ∷ map (moved n stage) rs))) e
          ∙ elim (cases_Bool (fin r)) [
            | inl f ↦
                ap run_tasks (cond-true (fin r) (r ∷ filter fin (map (moved n stage) rs)) (filter fin (map (moved n stage) rs)) f)
                ∙ ap (λ ts. r.task ∷ ts) ih
                ∙ ap run_tasks (sym (cond-true (fin r) (r ∷ filter fin rs) (filter fin rs) f))
            | inr f ↦
                ap run_tasks (cond-false (fin r) (r ∷ filter fin (map (moved n stage) rs)) (filter fin (map (moved n stage) rs)) f)
                ∙ ih
                ∙ ap run_tasks (sym (cond-false (fin r) (r ∷ filter fin rs) (filter fin rs) f))
          ]
    ]

pub waiting-open : (s : Stage) → waits s ≡ true → is_finished s ≡ false
waiting-open Waiting t = refl
waiting-open Out t = refl
waiting-open Finished t = absurd (false≢true t)

pub out-open : (s : Stage) → is_out s ≡ true → is_finished s ≡ false
out-open Waiting t = refl
out-open Out t = refl
out-open Finished t = absurd (false≢true t)
