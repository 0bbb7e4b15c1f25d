-- Seats that take their state from the tick before.
use Rattle.std.proofs.Common.{suc, zero, ◌≡◌, ℕ, ◌<◌, inl, inr, Bool, true, false, not, ◌&&◌, List, [], ◌∷◌, ◌++◌, map, refl, sym, ◌∙◌, ap, subst, if◌then◌else◌, Option, Some, None}
use Rattle.std.specs.Prelude.{slice_get, is_some, option_and_then}
use Rattle.std.specs.List.{filter, AllZip}
use Rattle.std.proofs.lemmas.Bool.{cases_Bool, cond-true, cond-false, false≢true, and_from, and_left, and_right}
use Rattle.g726_bits.specs.State.{CodecState}
use Rattle.g726_codec.specs.declared.Triple.{Triple}
use Rattle.talk_mix.specs.declared.ticks.Tick.{Tick}
use Rattle.talk_mix.specs.Mix.{mix}
use Rattle.triple_table.specs.Rows.{Row}
use Rattle.conference_spec.specs.declared.Task.{Task}
use Rattle.conference_spec.specs.Coding.{Coder, after}
use Rattle.conference_spec.specs.Feed.{Feed, Listener, listeners, hears, closes}
use Rattle.conference_spec.specs.Tasks.{task_of, tasks_of, own_task}
use Rattle.conference_spec.specs.Machine.{Run, is_finished, is_done, has_passed}
use Rattle.conference_spec.specs.Members.{In}
use Rattle.conference_spec.proofs.Members.{in-all}
use Rattle.conference_spec.proofs.Stages.{done-collected}
use Rattle.conference_spec.proofs.Wants.{heard-ticks}
use Rattle.book_lists.specs.Levels.{Level, IsAt, Knows, IsNewest, CameFrom, Sits, Placing, placed, placed_for, placed_seats, state_of_row, state_of_seat, state_at, newly_known, triple_at, HasRunOf, TakesRun}
use Rattle.book_lists.specs.declared.seats.Seat.{Seat}
use Rattle.book_lists.proofs.Rowing.{placed_all}

abbrev pub known_if : Bool → CodecState → Option CodecState
known_if b s = if b then Some s else None

abbrev pub state_of : Coder → Listener → CodecState
state_of coder l = after coder l.spec.rate l.first l.heard

pub get-front : {X : Type 0} (xs ys : List X) (i : ℕ) (x : X) → slice_get xs i ≡ Some x → slice_get (xs ++ ys) i ≡ Some x
get-front [] ys i x e = cc
get-front {X} (y ∷ xs) ys i x e =
    let at : (i : ℕ) → slice_get (y ∷ xs) i ≡ Some x → slice_get ((y ∷ xs) ++ ys) i ≡ Some x = elim [ zero ↦ λ e. e | suc i ↦ λ e. get-front xs ys i x e ] in
    at i e

pub get-in : {X : Type 0} (xs : List X) (i : ℕ) (x : X) → slice_get xs i ≡ Some x → In x xs
get-in [] i x e = cc
get-in {X} (y ∷ xs) i x e =
    let at : (i : ℕ) → slice_get (y ∷ xs) i ≡ Some x → In x (y ∷ xs) = elim [
      | zero ↦ λ e. inl (let q : y ≡ x = cc in q)
      | suc i ↦ λ e. inr (get-in xs i x e)
    ] in
    at i e

pub at-more : (rows more : List Row) (at : ℕ) (t : Triple) → IsAt rows at t → IsAt (rows ++ more) at t
at-more rows more at t a = record { row = a.row; there = get-front rows more at a.row a.there; same = a.same }

-- a pair that zips
pub zip-at : {A B : Type 0} (R : A → B → Type 0) (xs : List A) (ys : List B) (i : ℕ) (y : B) → AllZip R xs ys → slice_get ys i ≡ Some y
    → (x : A) × (slice_get xs i ≡ Some x) × R x y
zip-at R [] [] i y z e = cc
zip-at R [] (b ∷ ys) i y z e = absurd z
zip-at R (a ∷ xs) [] i y z e = absurd z
zip-at {A} {B} R (a ∷ xs) (b ∷ ys) i y z e =
    let at : (i : ℕ) → slice_get (b ∷ ys) i ≡ Some y → (x : A) × (slice_get (a ∷ xs) i ≡ Some x) × R x y = elim [
      | zero ↦ λ e. (a, refl, (let q : b ≡ y = cc in subst (R a) q z.0))
      | suc i ↦ λ e. zip-at R xs ys i y z.1 e
    ] in
    at i e

-- what the rows of tick k say of their runs
pub record RowsTell (coder : Coder) (gone : ℕ) (runs : List Run) (k : ℕ) (rows : List Row) : Type 0 where
  pub done : (r : Row) → In r rows → is_done coder gone runs (record { tick = k; triple = r.triple }) ≡ is_finished r.stage

-- what a seat's run leaves is the state of its listener after the tick, where that one has passed it
pub next-state : (coder : Coder) (gone : ℕ) (runs : List Run) (rows : List Row) (tick : Tick) (h : Feed) (s : Seat) (m : Listener)
    → In m (listeners coder h) → RowsTell coder gone runs (closes h) rows → Sits coder gone runs rows (closes h) tick h s m
    → state_of_seat coder rows s.run ≡ known_if (has_passed coder gone runs (hears tick m)) (state_of coder (hears tick m))
next-state coder gone runs rows tick h s m i tells sits =
    let task = task_of coder (closes h) tick m in
    let own = own_task coder m.from m.spec.rate m.first m.heard (mix m.spec.member tick) in
    let same : own ≡ task = λ j. record { tick = heard-ticks coder h m i j; triple = task.triple } in
    let b = is_done coder gone runs own in
    let p = has_passed coder gone runs m in
    let st = state_of coder (hears tick m) in
    let at : (p' : Bool) (o : Option ℕ) → Knows p' o rows task.triple → state_of_seat coder rows o ≡ known_if (b && p') st = elim [
      | true ↦ elim [
        | Some n ↦ λ k.
            let row = k.row in
            let fin = is_finished row.stage in
            let told : b ≡ fin = ap (is_done coder gone runs) (same ∙ (λ j. record { tick = closes h; triple = sym k.same j })) ∙ tells.done row (get-in rows n row k.there) in
            ap (option_and_then (state_of_row coder)) k.there
            ∙ ap (λ t. if fin then Some (coder.encoded t.rate t.state t.mix).0 else None) k.same
            ∙ elim (cases_Bool fin) [
              | inl t ↦ cond-true fin (Some st) None t ∙ sym (cond-true (b && true) (Some st) None (and_from b true (told ∙ t) refl))
              | inr t ↦ cond-false fin (Some st) None t ∙ sym (cond-false (b && true) (Some st) None (and_left b true (told ∙ t)))
            ]
        | None ↦ λ k. absurd k
      ]
      | false ↦ elim [
        | Some n ↦ λ k. absurd k
        | None ↦ λ k. sym (cond-false (b && false) (Some st) None (and_right b false refl))
      ]
    ] in
    at p s.run sits.run

-- a listener with no open tick has passed all
pub passed-before : (coder : Coder) (gone : ℕ) (runs : List Run) (l : Listener) → ((x : Task) → In x (tasks_of coder l) → x.tick < gone)
    → has_passed coder gone runs l ≡ true
passed-before coder gone runs l h = in-all (is_done coder gone runs) (tasks_of coder l) (λ x i. done-collected coder gone runs x (h x i))

-- where the tests of passing are before, then and after: who has newly passed
abbrev pub newly : (Listener → Bool) → (Listener → Bool) → Listener → Bool
newly before now l = not (before l) && now l

pub known-newly : (p q : Bool) (st : CodecState) → (p ≡ true → q ≡ true) → (if p then None else known_if q st) ≡ known_if (not p && q) st
known-newly true q st imp = refl
known-newly false q st imp = refl

-- the known state of a seat whose listener's newest tick before is at this level
pub known-at : (coder : Coder) (gone : ℕ) (runs runs' : List Run) (rows : List Row) (k : ℕ) (tick : Tick) (h : Feed) (s : Seat) (l : Listener)
    (older : Level) → ((i : ℕ) → IsNewest coder h i l → state_at coder older i ≡ known_if (has_passed coder gone runs' l) (state_of coder l))
    → (has_passed coder gone runs l ≡ true → has_passed coder gone runs' l ≡ true)
    → Sits coder gone runs rows k tick h s l
    → newly_known coder older s ≡ known_if (newly (has_passed coder gone runs) (has_passed coder gone runs') l) (state_of coder l)
known-at coder gone runs runs' rows k tick h s l older states imp sits =
    let p = has_passed coder gone runs l in
    let q = has_passed coder gone runs' l in
    let st = state_of coder l in
    let t = (task_of coder k tick l).triple in
    let some_is : (p' : Bool) (o : Option ℕ) → Knows p' o rows t → is_some o ≡ p' = elim [
      | true ↦ elim [ Some n ↦ λ k. refl | None ↦ λ k. absurd k ]
      | false ↦ elim [ Some n ↦ λ k. absurd k | None ↦ λ k. refl ]
    ] in
    let there : is_some s.run ≡ p = some_is p s.run sits.run in
    let from : (o : Option ℕ) → CameFrom coder gone h o l → (if p then None else option_and_then (state_at coder older) o) ≡ (if p then None else known_if q st) = elim [
      | None ↦ λ c. cond-true p None None (passed-before coder gone runs l c) ∙ sym (cond-true p None (known_if q st) (passed-before coder gone runs l c))
      | Some i ↦ λ c. ap (λ o. if p then None else o) (states i c)
    ] in
    ap (λ b. if b then None else option_and_then (state_at coder older) s.earlier) there
    ∙ from s.earlier sits.came
    ∙ known-newly p q st imp

-- each seat's known state is that of its listener, where that one has newly passed
abbrev pub KnownFor : (Seat → Option CodecState) → (Listener → Bool) → Coder → Seat → Listener → Type 0
KnownFor known new coder s l = (s.spec ≡ l.spec) × (known s ≡ known_if (new l) (state_of coder l))

-- placing for the seats is placing the tasks of those who have newly passed
pub placed-seats : (coder : Coder) (k : ℕ) (tick : Tick) (known : Seat → Option CodecState) (new : Listener → Bool) (ss : List Seat) (ls : List Listener) (p : Placing)
    → AllZip (KnownFor known new coder) ss ls
    → placed_seats coder tick known ss p ≡ placed_all coder (map (task_of coder k tick) (filter new ls)) p
placed-seats coder k tick known new [] [] p z = refl
placed-seats coder k tick known new [] (l ∷ ls) p z = absurd z
placed-seats coder k tick known new (s ∷ ss) [] p z = absurd z
placed-seats coder k tick known new (s ∷ ss) (l ∷ ls) p z =
    let st = state_of coder l in
    let t : triple_at tick s st ≡ (task_of coder k tick l).triple = ap (λ c. record { rate = c.rate; state = st; mix = mix c.member tick }) z.0.0 in
    elim (cases_Bool (new l)) [
      | inl y ↦
          ap (λ o. placed_seats coder tick known ss (placed_for coder tick s o p)) (z.0.1 ∙ cond-true (new l) (Some st) None y)
          ∙ placed-seats coder k tick known new ss ls (placed coder (triple_at tick s st) p) z.1
          ∙ ap (λ x. placed_all coder (map (task_of coder k tick) (filter new ls)) (placed coder x p)) t
          ∙ sym (ap (λ xs. placed_all coder (map (task_of coder k tick) xs) p) (cond-true (new l) (l ∷ filter new ls) (filter new ls) y))
      | inr y ↦
          ap (λ o. placed_seats coder tick known ss (placed_for coder tick s o p)) (z.0.1 ∙ cond-false (new l) (Some st) None y)
          ∙ placed-seats coder k tick known new ss ls p z.1
          ∙ sym (ap (λ xs. placed_all coder (map (task_of coder k tick) xs) p) (cond-false (new l) (l ∷ filter new ls) (filter new ls) y))
    ]

-- a seat that took its run sits again
pub sits-again : (coder : Coder) (gone : ℕ) (runs runs' : List Run) (rows more : List Row) (k : ℕ) (tick : Tick) (h : Feed) (known : Seat → Option CodecState) (s s' : Seat) (l : Listener)
    → (has_passed coder gone runs l ≡ true → has_passed coder gone runs' l ≡ true)
    → KnownFor known (newly (has_passed coder gone runs) (has_passed coder gone runs')) coder s l
    → TakesRun tick known (rows ++ more) s s' → Sits coder gone runs rows k tick h s l → Sits coder gone runs' (rows ++ more) k tick h s' l
sits-again coder gone runs runs' rows more k tick h known s s' l imp kn takes sits =
    let p = has_passed coder gone runs l in
    let q = has_passed coder gone runs' l in
    let st = state_of coder l in
    let t = (task_of coder k tick l).triple in
    let same : triple_at tick s st ≡ t = ap (λ c. record { rate = c.rate; state = st; mix = mix c.member tick }) kn.0 in
    let P : Option CodecState → Type 0 = HasRunOf tick (rows ++ more) s s' in
    let run = subst P kn.1 takes.run in
    let by : (p' q' : Bool) → (p' ≡ true → q' ≡ true) → P (known_if (not p' && q') st) → Knows p' s.run rows t → Knows q' s'.run (rows ++ more) t = elim [
      | true ↦ elim [
        | true ↦ λ i r a.
            let A : Option ℕ → Type 0 = λ o. Knows true o (rows ++ more) t in
            let more_at : (o : Option ℕ) → Knows true o rows t → A o = elim [ Some n ↦ λ b. at-more rows more n t b | None ↦ λ b. absurd b ] in
            subst A (sym r) (more_at s.run a)
        | false ↦ λ i r a. absurd (false≢true (i refl))
      ]
      | false ↦ elim [
        | true ↦ λ i r a.
            let A : Option ℕ → Type 0 = λ o. Knows true o (rows ++ more) t in
            subst A (sym r.1) (record { row = r.2.row; there = r.2.there; same = r.2.same ∙ same })
        | false ↦ λ i r a.
            let A : Option ℕ → Type 0 = λ o. Knows false o (rows ++ more) t in
            let none : (o : Option ℕ) → Knows false o rows t → A o = elim [ Some n ↦ λ b. absurd b | None ↦ λ b. tt ] in
            subst A (sym r) (none s.run a)
      ]
    ] in
    record {
      spec = takes.spec ∙ sits.spec;
      heard = takes.heard ∙ sits.heard;
      run = by p q imp run sits.run;
      came = (let A : Option ℕ → Type 0 = λ o. CameFrom coder gone h o l in subst A (sym takes.earlier) sits.came);
    }

pub zip-again : {A A' B : Type 0} (T : A → A' → Type 0) (R : A → B → Type 0) (K : A → B → Type 0) (S : A' → B → Type 0) (xs : List A) (xs' : List A') (ys : List B)
    → ((x : A) (x' : A') (y : B) → In y ys → T x x' → K x y → R x y → S x' y) → AllZip T xs xs' → AllZip K xs ys → AllZip R xs ys → AllZip S xs' ys
zip-again T R K S [] [] [] f t k r = tt
zip-again T R K S [] [] (y ∷ ys) f t k r = absurd r
zip-again T R K S [] (x' ∷ xs') ys f t k r = absurd t
zip-again T R K S (x ∷ xs) [] ys f t k r = absurd t
zip-again T R K S (x ∷ xs) (x' ∷ xs') [] f t k r = absurd r
zip-again T R K S (x ∷ xs) (x' ∷ xs') (y ∷ ys) f t k r =
    (f x x' y (inl refl) t.0 k.0 r.0, zip-again T R K S xs xs' ys (λ a a' b i. f a a' b (inr i)) t.1 k.1 r.1)

pub zip-map : {A B : Type 0} (R S : A → B → Type 0) (xs : List A) (ys : List B) → ((x : A) (y : B) → In y ys → R x y → S x y) → AllZip R xs ys → AllZip S xs ys
zip-map R S [] [] f r = tt
zip-map R S [] (y ∷ ys) f r = absurd r
zip-map R S (x ∷ xs) [] f r = absurd r
zip-map R S (x ∷ xs) (y ∷ ys) f r = (f x y (inl refl) r.0, zip-map R S xs ys (λ a b i. f a b (inr i)) r.1)
