-- Rows of a table, and triples that are placed in it one after the other.
use Rattle.std.proofs.Common.{◌≡◌, ℕ, ◌+◌, inl, inr, Bool, true, false, not, ◌||◌, ◌&&◌, cond, List, [], ◌∷◌, ◌++◌, length, map, refl, sym, ◌∙◌, ap, subst, arith, append_assoc}
use Rattle.std.specs.List.{filter}
use Rattle.std.proofs.lemmas.Bool.{cases_Bool, cond-true, cond-false, not_from_false, not_from_true, both_ways, false≢true, eq-eqb}
use Rattle.std.proofs.lemmas.List.{append-nil, map-append}
use Rattle.g726_codec.specs.declared.Triple.{Triple}
use Rattle.triple_table.specs.Rows.{Row}
use Rattle.conference_spec.specs.declared.Task.{Task}
use Rattle.conference_spec.specs.declared.Stage.TheVariants.{Waiting}
use Rattle.conference_spec.specs.Coding.{Coder, Tells}
use Rattle.conference_spec.specs.Tasks.{is_same_task, each_once}
use Rattle.conference_spec.specs.Machine.{has, numbered}
use Rattle.conference_spec.specs.Members.{In}
use Rattle.conference_spec.proofs.Members.{in-append_left, in-append_right, in-append_cases, in-filter_parts}
use Rattle.conference_spec.proofs.Wants.{same-decides}
use Rattle.conference_spec.proofs.Stages.{has-in, in-has}
use Rattle.book_lists.specs.Levels.{run_of, has_row, Placing, placed}

-- the rows of these tasks, with the next numbers
abbrev pub rows_numbered : ℕ → List Task → List Row
rows_numbered n [] = []
rows_numbered n (x ∷ xs) = record { triple = x.triple; number = n + 1; stage = Waiting } ∷ rows_numbered (n + 1) xs

-- tasks at one tick
abbrev pub AllAt : ℕ → List Task → Type 0
AllAt k [] = Unit {0}
AllAt k (x ∷ xs) = (x.tick ≡ k) × AllAt k xs

pub runs-numbered : (k n : ℕ) (xs : List Task) → AllAt k xs → map (run_of k) (rows_numbered n xs) ≡ numbered n xs
runs-numbered k n [] h = refl
runs-numbered k n (x ∷ xs) h =
    ap (λ t. record { number = n + 1; task = record { tick = t; triple = x.triple }; stage = Waiting } ∷ map (run_of k) (rows_numbered (n + 1) xs)) (sym h.0)
    ∙ ap (λ rs. record { number = n + 1; task = x; stage = Waiting } ∷ rs) (runs-numbered k (n + 1) xs h.1)

pub numbered-append : (n : ℕ) (xs ys : List Task) → numbered n (xs ++ ys) ≡ numbered n xs ++ numbered (n + length xs) ys
numbered-append n [] ys = let e : n ≡ n + 0 = omega arith in ap (λ m. numbered m ys) e
numbered-append n (x ∷ xs) ys =
    let e : (n + 1) + length xs ≡ n + length (x ∷ xs) = omega arith in
    ap (λ rs. record { number = n + 1; task = x; stage = Waiting } ∷ rs) (numbered-append (n + 1) xs ys)
    ∙ ap (λ m. record { number = n + 1; task = x; stage = Waiting } ∷ (numbered (n + 1) xs ++ numbered m ys)) e

pub rows-append : (n : ℕ) (xs ys : List Task) → rows_numbered n (xs ++ ys) ≡ rows_numbered n xs ++ rows_numbered (n + length xs) ys
rows-append n [] ys = let e : n ≡ n + 0 = omega arith in ap (λ m. rows_numbered m ys) e
rows-append n (x ∷ xs) ys =
    let e : (n + 1) + length xs ≡ n + length (x ∷ xs) = omega arith in
    ap (λ rs. record { triple = x.triple; number = n + 1; stage = Waiting } ∷ rs) (rows-append (n + 1) xs ys)
    ∙ ap (λ m. record { triple = x.triple; number = n + 1; stage = Waiting } ∷ (rows_numbered (n + 1) xs ++ rows_numbered m ys)) e

-- the tasks of these rows at tick k
abbrev pub row_tasks : ℕ → List Row → List Task
row_tasks k rows = map (λ r. record { tick = k; triple = r.triple }) rows

-- a task at tick k has a row just where its triple has
pub has-row : (coder : Coder) (k : ℕ) (rows : List Row) (t : Triple) → has coder (row_tasks k rows) (record { tick = k; triple = t }) ≡ has_row coder rows t
has-row coder k [] t = refl
has-row coder k (r ∷ rows) t =
    ap (λ b. (b && coder.is_same r.triple t) || has coder (row_tasks k rows) (record { tick = k; triple = t })) (eq-eqb k k refl)
    ∙ ap (λ b. coder.is_same r.triple t || b) (has-row coder k rows t)

-- triples of tasks, placed one after the other
abbrev pub placed_all : Coder → List Task → Placing → Placing
placed_all coder [] p = p
placed_all coder (x ∷ xs) p = placed_all coder xs (placed coder x.triple p)

-- those of them that get a number
abbrev pub fresh : Coder → ℕ → List Row → List Task → List Task
fresh coder k rows xs = filter (λ x. not (has coder (row_tasks k rows) x)) (each_once coder xs)

-- two tests that agree on a list keep the same of it
pub filter-agree : {X : Type 0} (p q : X → Bool) (xs : List X) → ((x : X) → In x xs → p x ≡ q x) → filter p xs ≡ filter q xs
filter-agree p q [] h = refl
filter-agree p q (x ∷ xs) h =
    ap (λ b. cond b (x ∷ filter p xs) (filter p xs)) (h x (inl refl))
    ∙ ap (λ ys. cond (q x) (x ∷ ys) ys) (filter-agree p q xs (λ y i. h y (inr i)))

-- a filter of a filter, in either order
pub filter-swap : {X : Type 0} (p q : X → Bool) (xs : List X) → filter p (filter q xs) ≡ filter q (filter p xs)
filter-swap p q [] = refl
filter-swap {X} p q (x ∷ xs) =
    let ih = filter-swap p q xs in
    elim (cases_Bool (p x)) [
      | inl a ↦ elim (cases_Bool (q x)) [
        | inl b ↦ ap (filter p) (cond-true (q x) (x ∷ filter q xs) (filter q xs) b) ∙ cond-true (p x) (x ∷ filter p (filter q xs)) (filter p (filter q xs)) a
            ∙ ap (λ ys. x ∷ ys) ih
            ∙ sym (ap (filter q) (cond-true (p x) (x ∷ filter p xs) (filter p xs) a) ∙ cond-true (q x) (x ∷ filter q (filter p xs)) (filter q (filter p xs)) b)
        | inr b ↦ ap (filter p) (cond-false (q x) (x ∷ filter q xs) (filter q xs) b) ∙ ih
            ∙ sym (ap (filter q) (cond-true (p x) (x ∷ filter p xs) (filter p xs) a) ∙ cond-false (q x) (x ∷ filter q (filter p xs)) (filter q (filter p xs)) b)
      ]
      | inr a ↦ elim (cases_Bool (q x)) [
        | inl b ↦ ap (filter p) (cond-true (q x) (x ∷ filter q xs) (filter q xs) b) ∙ cond-false (p x) (x ∷ filter p (filter q xs)) (filter p (filter q xs)) a
            ∙ ih
            ∙ sym (ap (filter q) (cond-false (p x) (x ∷ filter p xs) (filter p xs) a))
        | inr b ↦ ap (filter p) (cond-false (q x) (x ∷ filter q xs) (filter q xs) b) ∙ ih
            ∙ sym (ap (filter q) (cond-false (p x) (x ∷ filter p xs) (filter p xs) a))
      ]
    ]

-- a filter that another one implies
pub filter-implied : {X : Type 0} (p q : X → Bool) (xs : List X) → ((x : X) → p x ≡ true → q x ≡ true) → filter p (filter q xs) ≡ filter p xs
filter-implied p q [] imp = refl
filter-implied {X} p q (x ∷ xs) imp =
    let ih = filter-implied p q xs imp in
    elim (cases_Bool (q x)) [
      | inl b ↦ ap (filter p) (cond-true (q x) (x ∷ filter q xs) (filter q xs) b) ∙ ap (λ ys. cond (p x) (x ∷ ys) ys) ih
      | inr b ↦
          let none : p x ≡ false = elim (cases_Bool (p x)) [ inl a ↦ absurd (false≢true (sym b ∙ imp x a)) | inr a ↦ a ] in
          ap (filter p) (cond-false (q x) (x ∷ filter q xs) (filter q xs) b) ∙ ih ∙ sym (cond-false (p x) (x ∷ filter p xs) (filter p xs) none)
    ]

-- a task that has a row gets none
pub fresh-had : (coder : Coder) → Tells coder → (k : ℕ) (rows : List Row) (x : Task) (xs : List Task) → has coder (row_tasks k rows) x ≡ true
    → fresh coder k rows (x ∷ xs) ≡ fresh coder k rows xs
fresh-had coder tells k rows x xs t =
    let free = λ (y : Task). not (has coder (row_tasks k rows) y) in
    let other = λ (y : Task). not (is_same_task coder x y) in
    cond-false (free x) (x ∷ filter free (filter other (each_once coder xs))) (filter free (filter other (each_once coder xs))) (not_from_true (has coder (row_tasks k rows) x) t)
    ∙ filter-implied free other (each_once coder xs)
    (λ y f. elim (cases_Bool (is_same_task coder x y)) [
      | inl s ↦ absurd (both_ways (free y) (not_from_true (has coder (row_tasks k rows) y) (let P : Task → Type 0 = λ z. has coder (row_tasks k rows) z ≡ true in subst P ((same-decides coder tells x y).0 s) t)) f)
      | inr s ↦ not_from_false (is_same_task coder x y) s
    ])

-- a task that has none gets the first, and is then had
pub fresh-new : (coder : Coder) → Tells coder → (k n : ℕ) (rows : List Row) (x : Task) (xs : List Task) → x.tick ≡ k → has coder (row_tasks k rows) x ≡ false
    → fresh coder k rows (x ∷ xs) ≡ x ∷ fresh coder k (rows ++ record { triple = x.triple; number = n + 1; stage = Waiting } ∷ []) xs
fresh-new coder tells k n rows x xs at t =
    let new : Row = record { triple = x.triple; number = n + 1; stage = Waiting } in
    let free = λ (y : Task). not (has coder (row_tasks k rows) y) in
    let free' = λ (y : Task). not (has coder (row_tasks k (rows ++ new ∷ [])) y) in
    let other = λ (y : Task). not (is_same_task coder x y) in
    let mine : record { tick = k; triple = x.triple } ≡ x = λ i. record { tick = sym at i; triple = x.triple } in
    let more : row_tasks k (rows ++ new ∷ []) ≡ row_tasks k rows ++ x ∷ [] =
    map-append (λ r. record { tick = k; triple = r.triple }) rows (new ∷ []) ∙ ap (λ y. row_tasks k rows ++ y ∷ []) mine in
    let both : (y : Task) → free' y ≡ true → free y ≡ true × (other y ≡ true) = λ y f.
    let not_had : has coder (row_tasks k (rows ++ new ∷ [])) y ≡ false = elim (cases_Bool (has coder (row_tasks k (rows ++ new ∷ [])) y)) [
      | inl u ↦ absurd (both_ways (free' y) (not_from_true (has coder (row_tasks k (rows ++ new ∷ [])) y) u) f)
      | inr u ↦ u
    ] in
    let out : In y (row_tasks k (rows ++ new ∷ [])) → ⊥ = λ i. false≢true (sym not_had ∙ in-has coder tells (row_tasks k (rows ++ new ∷ [])) y i) in
    let L : List Task → Type 0 = λ ts. In y ts in (
      elim (cases_Bool (has coder (row_tasks k rows) y)) [
        | inl u ↦ absurd (out (subst L (sym more) (in-append_left y (row_tasks k rows) (x ∷ []) (has-in coder tells (row_tasks k rows) y u))))
        | inr u ↦ not_from_false (has coder (row_tasks k rows) y) u
      ],
      elim (cases_Bool (is_same_task coder x y)) [
        | inl u ↦ absurd (out (subst L (sym more) (in-append_right y (row_tasks k rows) (x ∷ []) (inl ((same-decides coder tells x y).0 u)))))
        | inr u ↦ not_from_false (is_same_task coder x y) u
      ],
    ) in
    let back : (y : Task) → free y ≡ true → other y ≡ true → free' y ≡ true = λ y f o.
    elim (cases_Bool (has coder (row_tasks k (rows ++ new ∷ [])) y)) [
      | inl u ↦
          let L : List Task → Type 0 = λ ts. In y ts in
          elim (in-append_cases y (row_tasks k rows) (x ∷ []) (subst L more (has-in coder tells (row_tasks k (rows ++ new ∷ [])) y u))) [
            | inl a ↦ absurd (both_ways (free y) (not_from_true (has coder (row_tasks k rows) y) (in-has coder tells (row_tasks k rows) y a)) f)
            | inr b ↦ elim b [
              | inl e ↦ absurd (both_ways (other y) (not_from_true (is_same_task coder x y) ((same-decides coder tells x y).1 e)) o)
              | inr z ↦ absurd z
            ]
          ]
      | inr u ↦ not_from_false (has coder (row_tasks k (rows ++ new ∷ [])) y) u
    ] in
    cond-true (free x) (x ∷ filter free (filter other (each_once coder xs))) (filter free (filter other (each_once coder xs))) (not_from_false (has coder (row_tasks k rows) x) t)
    ∙ ap (λ ys. x ∷ ys)
    (filter-agree free free' (filter other (each_once coder xs))
    (λ y i.
    let o = (in-filter_parts other y (each_once coder xs) i).1 in
    elim (cases_Bool (free y)) [
      | inl f ↦ f ∙ sym (back y f o)
      | inr f ↦ elim (cases_Bool (free' y)) [ inl g ↦ absurd (both_ways (free y) f (both y g).0) | inr g ↦ f ∙ sym g ]
    ])
    ∙ filter-implied free' other (each_once coder xs) (λ y f. (both y f).1))

-- placing task after task of tick k gives those that are fresh the next numbers
pub placed-all : (coder : Coder) → Tells coder → (k : ℕ) (xs : List Task) (p : Placing) → AllAt k xs
    → placed_all coder xs p ≡ record { rows = p.rows ++ rows_numbered p.issued (fresh coder k p.rows xs); issued = p.issued + length (fresh coder k p.rows xs) }
placed-all coder tells k [] p at = λ i. record { rows = sym (append-nil p.rows) i; issued = let e : p.issued ≡ p.issued + 0 = omega arith in e i }
placed-all coder tells k (x ∷ xs) p at =
    let mine : record { tick = k; triple = x.triple } ≡ x = λ i. record { tick = sym at.0 i; triple = x.triple } in
    let told : has coder (row_tasks k p.rows) x ≡ has_row coder p.rows x.triple = ap (has coder (row_tasks k p.rows)) (sym mine) ∙ has-row coder k p.rows x.triple in
    let new : Row = record { triple = x.triple; number = p.issued + 1; stage = Waiting } in
    let after : Placing = record { rows = p.rows ++ new ∷ []; issued = p.issued + 1 } in
    elim (cases_Bool (has_row coder p.rows x.triple)) [
      | inl t ↦
          ap (placed_all coder xs) (cond-true (has_row coder p.rows x.triple) p after t)
          ∙ placed-all coder tells k xs p at.1
          ∙ ap (λ f. record { rows = p.rows ++ rows_numbered p.issued f; issued = p.issued + length f }) (sym (fresh-had coder tells k p.rows x xs (told ∙ t)))
      | inr t ↦
          let f = fresh coder k (p.rows ++ new ∷ []) xs in
          ap (placed_all coder xs) (cond-false (has_row coder p.rows x.triple) p after t)
          ∙ placed-all coder tells k xs after at.1
          ∙ (λ i. record {
            rows = append_assoc p.rows (new ∷ []) (rows_numbered (p.issued + 1) f) i;
            issued = let e : (p.issued + 1) + length f ≡ p.issued + length (x ∷ f) = omega arith in e i;
          })
          ∙ ap (λ g. record { rows = p.rows ++ rows_numbered p.issued g; issued = p.issued + length g }) (sym (fresh-new coder tells k p.issued p.rows x xs at.0 (told ∙ t)))
    ]
