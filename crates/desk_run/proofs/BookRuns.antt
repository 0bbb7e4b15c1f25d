-- The runs of a core: one tick closed, all its runs made in turn, and the tick handed out.
use Rattle.std.proofs.Common.{suc, slice_index_or, ◌≡◌, ℕ, ◌+◌, inl, inr, true, false, List, [], ◌∷◌, length, map, refl, sym, ◌∙◌, ap, subst, arith}
use Rattle.std.specs.Prelude.{◌==◌}
use Rattle.std.specs.List.{filter, All}
use Rattle.std.proofs.lemmas.Bool.{cases_Bool, cond-true, cond-false, both_ways, eqb-true, eq-eqb, ne_eqb, false≢true}
use Rattle.conference_spec.specs.declared.Task.{Task}
use Rattle.conference_spec.specs.declared.Stage.{Stage}
use Rattle.conference_spec.specs.declared.Stage.TheVariants.{Waiting, Out, Finished}
use Rattle.conference_spec.specs.Machine.{Run, waits, is_out, is_finished, run_tasks, numbered, moved}
use Rattle.conference_spec.proofs.Members.{In, in-map_cases}
use Rattle.conference_spec.proofs.Stages.{Rise, rise-above, rise-lower, tasks-moved}
use Rattle.conference_spec.proofs.Told.{in-at}

-- ---- what holds of each ----

pub all-at : {X : Type 0} (P : X → Type 0) (x : X) (xs : List X) → All P xs → In x xs → P x
all-at P x [] a i = absurd i
all-at P x (y ∷ ys) a (inl e) = subst P e (a 0 y (omega arith))
all-at P x (y ∷ ys) a (inr i) = all-at P x ys (λ k d lt. a (suc k) d (omega arith)) i

pub all-of : {X : Type 0} (P : X → Type 0) (xs : List X) → ((x : X) → In x xs → P x) → All P xs
all-of P xs h = λ k d lt. h (slice_index_or xs k d) (in-at xs k d lt)

-- ---- stages ----

pub finished-in : (s : Stage) → is_finished s ≡ true → is_out s ≡ false
finished-in Waiting t = refl
finished-in Out t = absurd (false≢true t)
finished-in Finished t = refl

at-rest : (s : Stage) → is_out s ≡ false → waits s ≡ false → is_finished s ≡ true
at-rest Waiting o w = absurd (false≢true (sym w))
at-rest Out o w = absurd (false≢true (sym o))
at-rest Finished o w = refl

pub new-waits : (n : ℕ) (xs : List Task) (r : Run) → In r (numbered n xs) → is_out r.stage ≡ false
new-waits n [] r i = absurd i
new-waits n (x ∷ xs) r (inl e) = ap (λ q. is_out q.stage) (sym e)
new-waits n (x ∷ xs) r (inr i) = new-waits (n + 1) xs r i

-- where none waits and none is out, each is finished
each-finished : (rs : List Run) → ((r : Run) → In r rs → is_out r.stage ≡ false) → length (filter (λ r. waits r.stage) rs) ≡ 0 → (r : Run) → In r rs → is_finished r.stage ≡ true
each-finished [] a none r i = absurd i
each-finished (q ∷ rs) a none r i =
    let w = λ (q : Run). waits q.stage in
    elim (cases_Bool (waits q.stage)) [
      | inl t ↦ (let e = cond-true (w q) (q ∷ filter w rs) (filter w rs) t in absurd (omega (arith, ap length e)))
      | inr t ↦
          let e = cond-false (w q) (q ∷ filter w rs) (filter w rs) t in
          elim i [
            | inl at ↦ ap (λ x. is_finished x.stage) (sym at) ∙ at-rest q.stage (a q (inl refl)) t
            | inr j ↦ each-finished rs (λ x k. a x (inr k)) (omega (arith, ap length e)) r j
          ]
    ]

pub all-finished : (rs : List Run) → All (λ r. is_out r.stage ≡ false) rs → length (filter (λ r. waits r.stage) rs) ≡ 0 → All (λ r. is_finished r.stage ≡ true) rs
all-finished rs a none = all-of (λ r. is_finished r.stage ≡ true) rs (each-finished rs (λ r i. all-at (λ r. is_out r.stage ≡ false) r rs a i) none)

-- ---- a run that is made ----

moved-other : (n : ℕ) (stage : Stage) (r : Run) → (r.number ≡ n → ⊥) → moved n stage r ≡ r
moved-other n stage r ne = cond-false (r.number == n) (record { number = r.number; task = r.task; stage = stage }) r (ne_eqb r.number n ne)

pub moved-self : (n : ℕ) (stage : Stage) (r : Run) → r.number ≡ n → moved n stage r ≡ record { number = r.number; task = r.task; stage = stage }
moved-self n stage r e = cond-true (r.number == n) (record { number = r.number; task = r.task; stage = stage }) r (eq-eqb r.number n e)

-- claimed, done and published
abbrev pub made : ℕ → List Run → List Run
made n rs = map (moved n Finished) (map (moved n Out) rs)

made-other : (n : ℕ) (r : Run) → (r.number ≡ n → ⊥) → moved n Finished (moved n Out r) ≡ r
made-other n r ne = ap (moved n Finished) (moved-other n Out r ne) ∙ moved-other n Finished r ne

made-self : (n : ℕ) (r : Run) → r.number ≡ n → moved n Finished (moved n Out r) ≡ record { number = r.number; task = r.task; stage = Finished }
made-self n r e =
    ap (moved n Finished) (moved-self n Out r e) ∙ moved-self n Finished (record { number = r.number; task = r.task; stage = Out }) e

made-above : (n high : ℕ) (rs : List Run) → Rise n high rs → made n rs ≡ rs
made-above n high [] h = refl
made-above n high (r ∷ rs) h =
    let k = h.0 in
    let rest : Rise n high rs = rise-lower r.number n high rs (omega arith) h.1 in
    let one : moved n Finished (moved n Out r) ≡ r = made-other n r (λ e. omega arith) in
    ap (λ q. q ∷ made n rs) one ∙ ap (λ qs. r ∷ qs) (made-above n high rs rest)

-- of the runs that wait it is one less
pub made-fewer : (low high : ℕ) (rs : List Run) → Rise low high rs → (r : Run) → In r rs → waits r.stage ≡ true
    → length (filter (λ r. waits r.stage) (made r.number rs)) + 1 ≡ length (filter (λ r. waits r.stage) rs)
made-fewer low high [] h r i t = absurd i
made-fewer low high (q ∷ rs) h r (inl e) t =
    let w = λ (q : Run). waits q.stage in
    let n = r.number in
    let at : q.number ≡ n = ap (λ x. x.number) e in
    let done : Run = record { number = q.number; task = q.task; stage = Finished } in
    let rest : made n rs ≡ rs = made-above n high rs (subst (λ (m : ℕ). Rise m high rs) at h.1) in
    let whole : made n (q ∷ rs) ≡ done ∷ rs = ap (λ x. x ∷ made n rs) (made-self n q at) ∙ ap (λ xs. done ∷ xs) rest in
    let a : length (filter w (made n (q ∷ rs))) ≡ length (filter w rs) = ap (λ xs. length (filter w xs)) whole in
    let b = ap length (cond-true (w q) (q ∷ filter w rs) (filter w rs) (ap w e ∙ t)) in
    omega (arith, a, b)
made-fewer low high (q ∷ rs) h r (inr i) t =
    let w = λ (q : Run). waits q.stage in
    let n = r.number in
    let above = rise-above q.number high rs h.1 r i in
    let ih = made-fewer q.number high rs h.1 r i t in
    let one : moved n Finished (moved n Out q) ≡ q = made-other n q (λ e. omega arith) in
    let whole : made n (q ∷ rs) ≡ q ∷ made n rs = ap (λ x. x ∷ made n rs) one in
    let a : length (filter w (made n (q ∷ rs))) ≡ length (filter w (q ∷ made n rs)) = ap (λ xs. length (filter w xs)) whole in
    elim (cases_Bool (w q)) [
      | inl u ↦
          let b = ap length (cond-true (w q) (q ∷ filter w (made n rs)) (filter w (made n rs)) u) in
          let d = ap length (cond-true (w q) (q ∷ filter w rs) (filter w rs) u) in
          omega (arith, a, b, d, ih)
      | inr u ↦
          let b = ap length (cond-false (w q) (q ∷ filter w (made n rs)) (filter w (made n rs)) u) in
          let d = ap length (cond-false (w q) (q ∷ filter w rs) (filter w rs) u) in
          omega (arith, a, b, d, ih)
    ]

pub made-tasks : (n : ℕ) (rs : List Run) → run_tasks (made n rs) ≡ run_tasks rs
made-tasks n rs = tasks-moved n Finished (map (moved n Out) rs) ∙ tasks-moved n Out rs

made-in : (n : ℕ) (r : Run) → is_out r.stage ≡ false → is_out (moved n Finished (moved n Out r)).stage ≡ false
made-in n r o =
    elim (cases_Bool (r.number == n)) [
      | inl t ↦ ap (λ q. is_out q.stage) (made-self n r (eqb-true r.number n t))
      | inr t ↦ ap (λ q. is_out q.stage) (made-other n r (λ e. both_ways (r.number == n) t (eq-eqb r.number n e))) ∙ o
    ]

pub made-none_out : (n : ℕ) (rs : List Run) → All (λ r. is_out r.stage ≡ false) rs → All (λ r. is_out r.stage ≡ false) (made n rs)
made-none_out n rs a = all-of (λ r. is_out r.stage ≡ false) (made n rs) (λ r i.
    let f = in-map_cases (moved n Finished) r (map (moved n Out) rs) i in
    let g = in-map_cases (moved n Out) f.0 rs f.1 in
    ap (λ q. is_out q.stage) (sym f.2) ∙ ap (λ q. is_out (moved n Finished q).stage) (sym g.2)
    ∙ made-in n g.0 (all-at (λ r. is_out r.stage ≡ false) g.0 rs a g.1))
