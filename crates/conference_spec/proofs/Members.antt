-- What is in a list, and lists that have each thing once.
use Rattle.std.proofs.Common.{◌≡◌, ◌+◌, ◌≤◌, ◌<◌, ◌⊎◌, inl, inr, Bool, true, not, List, [], ◌∷◌, ◌++◌, length, map, refl, sym, ◌∙◌, ap, subst, arith, Decides}
use Rattle.std.specs.List.{filter, list_any, list_all}
use Rattle.std.proofs.lemmas.Bool.{cases_Bool, cond_both, cond-true, cond-false, or_cases, or_left, or_right, and_parts, and_from, false≢true, both_ways, not_from_false, not_from_true}
pub use Rattle.conference_spec.specs.Members.{In, Once}

pub in-append_left : {X : Type 0} (x : X) (xs ys : List X) → In x xs → In x (xs ++ ys)
in-append_left x [] ys h = absurd h
in-append_left x (y ∷ xs) ys (inl e) = inl e
in-append_left x (y ∷ xs) ys (inr h) = inr (in-append_left x xs ys h)

pub in-append_right : {X : Type 0} (x : X) (xs ys : List X) → In x ys → In x (xs ++ ys)
in-append_right x [] ys h = h
in-append_right x (y ∷ xs) ys h = inr (in-append_right x xs ys h)

pub in-append_cases : {X : Type 0} (x : X) (xs ys : List X) → In x (xs ++ ys) → In x xs ⊎ In x ys
in-append_cases x [] ys h = inr h
in-append_cases x (y ∷ xs) ys (inl e) = inl (inl e)
in-append_cases x (y ∷ xs) ys (inr h) =
    elim (in-append_cases x xs ys h) [ inl a ↦ inl (inr a) | inr b ↦ inr b ]

pub in-map : {X Y : Type 0} (f : X → Y) (x : X) (xs : List X) → In x xs → In (f x) (map f xs)
in-map f x [] h = h
in-map f x (y ∷ xs) (inl e) = inl (ap f e)
in-map f x (y ∷ xs) (inr h) = inr (in-map f x xs h)

pub in-map_cases : {X Y : Type 0} (f : X → Y) (y : Y) (xs : List X) → In y (map f xs) → (x : X) × In x xs × (f x ≡ y)
in-map_cases f y [] h = absurd h
in-map_cases f y (x ∷ xs) (inl e) = (x, inl refl, e)
in-map_cases f y (x ∷ xs) (inr h) = let r = in-map_cases f y xs h in (r.0, inr r.1, r.2)

pub in-filter : {X : Type 0} (p : X → Bool) (x : X) (xs : List X) → In x xs → p x ≡ true → In x (filter p xs)
in-filter p x [] h t = h
in-filter {X} p x (y ∷ xs) (inl e) t =
    let at : p y ≡ true = ap p e ∙ t in
    let P : List X → Type 0 = λ ys. In x ys in
    subst P (sym (cond-true (p y) (y ∷ filter p xs) (filter p xs) at)) (inl e)
in-filter {X} p x (y ∷ xs) (inr h) t =
    let P : List X → Type 0 = λ ys. In x ys in
    cond_both (p y) (y ∷ filter p xs) (filter p xs) P (λ e. inr (in-filter p x xs h t)) (λ e. in-filter p x xs h t)

pub in-filter_parts : {X : Type 0} (p : X → Bool) (x : X) (xs : List X) → In x (filter p xs) → In x xs × (p x ≡ true)
in-filter_parts p x [] h = absurd h
in-filter_parts {X} p x (y ∷ xs) h =
    let P : List X → Type 0 = λ ys. In x ys → In x (y ∷ xs) × (p x ≡ true) in
    let rest : (In x (filter p xs) → In x (y ∷ xs) × (p x ≡ true)) = λ k. let r = in-filter_parts p x xs k in (inr r.0, r.1) in
    cond_both (p y) (y ∷ filter p xs) (filter p xs) P
    (λ t k. elim k [ inl e ↦ (inl e, ap p (sym e) ∙ t) | inr k' ↦ rest k' ])
    (λ t k. rest k) h

pub any-in : {X : Type 0} (p : X → Bool) (xs : List X) → list_any p xs ≡ true → (x : X) × In x xs × (p x ≡ true)
any-in p [] h = absurd (false≢true h)
any-in p (y ∷ xs) h =
    elim (or_cases (p y) (list_any p xs) h) [
      | inl t ↦ (y, inl refl, t)
      | inr t ↦ let r = any-in p xs t in (r.0, inr r.1, r.2)
    ]

pub in-any : {X : Type 0} (p : X → Bool) (x : X) (xs : List X) → In x xs → p x ≡ true → list_any p xs ≡ true
in-any p x [] h t = absurd h
in-any p x (y ∷ xs) (inl e) t = or_left (p y) (list_any p xs) (ap p e ∙ t)
in-any p x (y ∷ xs) (inr h) t = or_right (p y) (list_any p xs) (in-any p x xs h t)

pub all-in : {X : Type 0} (p : X → Bool) (x : X) (xs : List X) → list_all p xs ≡ true → In x xs → p x ≡ true
all-in p x [] t h = absurd h
all-in p x (y ∷ xs) t (inl e) = ap p (sym e) ∙ (and_parts (p y) (list_all p xs) t).0
all-in p x (y ∷ xs) t (inr h) = all-in p x xs (and_parts (p y) (list_all p xs) t).1 h

pub in-all : {X : Type 0} (p : X → Bool) (xs : List X) → ((x : X) → In x xs → p x ≡ true) → list_all p xs ≡ true
in-all p [] h = refl
in-all p (y ∷ xs) h = and_from (p y) (list_all p xs) (h y (inl refl)) (in-all p xs (λ x k. h x (inr k)))

pub once-filter : {X : Type 0} (p : X → Bool) (xs : List X) → Once xs → Once (filter p xs)
once-filter p [] h = tt
once-filter {X} p (y ∷ xs) h =
    let P : List X → Type 0 = λ ys. Once ys in
    let rest = once-filter p xs h.1 in
    cond_both (p y) (y ∷ filter p xs) (filter p xs) P (λ t. (λ k. h.0 (in-filter_parts p y xs k).0, rest)) (λ t. rest)

pub once-append : {X : Type 0} (xs ys : List X) → Once xs → Once ys → ((x : X) → In x xs → In x ys → ⊥) → Once (xs ++ ys)
once-append [] ys a b apart = b
once-append (x ∷ xs) ys a b apart = (
  λ h. elim (in-append_cases x xs ys h) [ inl k ↦ a.0 k | inr k ↦ apart x (inl refl) k ],
  once-append xs ys a.1 b (λ z h k. apart z (inr h) k),
)

-- what a filter keeps, and what it leaves out
pub length-filter_parts : {X : Type 0} (p : X → Bool) (xs : List X) → length xs ≡ length (filter p xs) + length (filter (λ x. not (p x)) xs)
length-filter_parts p [] = refl
length-filter_parts p (x ∷ xs) =
    let ih = length-filter_parts p xs in
    elim (cases_Bool (p x)) [
      | inl t ↦
          let a = cond-true (p x) (x ∷ filter p xs) (filter p xs) t in
          let b = cond-false (not (p x)) (x ∷ filter (λ y. not (p y)) xs) (filter (λ y. not (p y)) xs) (not_from_true (p x) t) in
          omega (arith, ap length a, ap length b)
      | inr t ↦
          let a = cond-false (p x) (x ∷ filter p xs) (filter p xs) t in
          let b = cond-true (not (p x)) (x ∷ filter (λ y. not (p y)) xs) (filter (λ y. not (p y)) xs) (not_from_false (p x) t) in
          omega (arith, ap length a, ap length b)
    ]

-- taking out what is there makes a list shorter
pub shorter : {X : Type 0} (is : X → X → Bool) → ((a b : X) → Decides (is a b) (a ≡ b)) → (x : X) (ys : List X) → In x ys → length (filter (λ y. not (is x y)) ys) < length ys
shorter is d x [] h = absurd h
shorter is d x (y ∷ ys) h =
    let p = λ (z : _). not (is x z) in
    let most = length-filter_parts p ys in
    elim (cases_Bool (is x y)) [
      | inl t ↦
          let b = cond-false (p y) (y ∷ filter p ys) (filter p ys) (not_from_true (is x y) t) in
          omega (arith, ap length b)
      | inr t ↦
          let b = cond-true (p y) (y ∷ filter p ys) (filter p ys) (not_from_false (is x y) t) in
          elim h [
            | inl e ↦ absurd (both_ways (is x y) t ((d x y).1 (sym e)))
            | inr k ↦ let less = shorter is d x ys k in omega (arith, ap length b)
          ]
    ]

-- a list that has each thing once, and whose things are all in another, is no longer than that one
pub fewer : {X : Type 0} (is : X → X → Bool) → ((a b : X) → Decides (is a b) (a ≡ b)) → (xs ys : List X) → Once xs → ((x : X) → In x xs → In x ys) → length xs ≤ length ys
fewer is d [] ys once within = omega arith
fewer is d (x ∷ xs) ys once within =
    let less = shorter is d x ys (within x (inl refl)) in
    let rest = fewer is d xs (filter (λ y. not (is x y)) ys) once.1
    (λ z h. in-filter (λ y. not (is x y)) z ys (within z (inr h))
    (elim (cases_Bool (is x z)) [
      | inl t ↦ absurd (once.0 (let P : _ → Type 0 = λ w. In w xs in subst P (sym ((d x z).0 t)) h))
      | inr t ↦ not_from_false (is x z) t
    ])) in
    omega arith
