-- Tests over lists.
use Rattle.std.proofs.Common.{◌≡◌, ◌⊎◌, ℕ, Bool, true, false, ◌||◌, not, cond, List, [], ◌∷◌, ◌++◌, map, filter, length, ◌<◌, ◌+◌, refl, sym, ap, ◌∙◌, inl, inr, arith}
use Rattle.std.specs.List.{list_any, AllByRecursion}
use Rattle.std.proofs.lemmas.Bool.{false≢true}
use Rattle.std.proofs.lemmas.List.Filters.{length-filter_both}

pub bool-cases : (b : Bool) → (b ≡ true) ⊎ (b ≡ false)
bool-cases true = inl refl
bool-cases false = inr refl

pub or-right : (a b : Bool) → b ≡ true → (a || b) ≡ true
or-right true b e = refl
or-right false b e = e

pub or-left : (a b : Bool) → a ≡ true → (a || b) ≡ true
or-left true b e = refl
or-left false b e = absurd (false≢true e)

pub or-rest : (a b : Bool) → a ≡ false → (a || b) ≡ true → b ≡ true
or-rest true b f e = absurd (false≢true (sym f))
or-rest false b f e = e

module _ {X : Type 0} where
  pub all-of : (P : X → Type 0) → ((x : X) → P x) → (xs : List X) → AllByRecursion P xs
  all-of P h [] = tt
  all-of P h (x ∷ xs) = (h x, all-of P h xs)

  pub all-mono : (P Q : X → Type 0) → ((x : X) → P x → Q x) → (xs : List X) → AllByRecursion P xs → AllByRecursion Q xs
  all-mono P Q h [] a = tt
  all-mono P Q h (x ∷ xs) a = (h x a.0, all-mono P Q h xs a.1)

  pub all-both : (P Q R : X → Type 0) → ((x : X) → P x → Q x → R x) → (xs : List X) → AllByRecursion P xs → AllByRecursion Q xs → AllByRecursion R xs
  all-both P Q R h [] a b = tt
  all-both P Q R h (x ∷ xs) a b = (h x a.0 b.0, all-both P Q R h xs a.1 b.1)

  pub all-map : (P : X → Type 0) (f : X → X) (xs : List X) → AllByRecursion (λ x. P (f x)) xs → AllByRecursion P (map f xs)
  all-map P f [] a = tt
  all-map P f (x ∷ xs) a = (a.0, all-map P f xs a.1)

  pub all-push : (P : X → Type 0) (xs : List X) (y : X) → AllByRecursion P xs → P y → AllByRecursion P (xs ++ y ∷ [])
  all-push P [] y a p = (p, tt)
  all-push P (x ∷ xs) y a p = (a.0, all-push P xs y a.1 p)

  pub all-filter : (P : X → Type 0) (q : X → Bool) (xs : List X) → AllByRecursion P xs → AllByRecursion P (filter q xs)
  all-filter P q [] a = tt
  all-filter P q (x ∷ xs) a =
      elim (bool-cases (q x)) [
        | inl t ↦ rw t (a.0, all-filter P q xs a.1)
        | inr f ↦ rw f (all-filter P q xs a.1)
      ]

  -- what passes one test passes another
  pub any-some : (p q : X → Bool) (xs : List X) → AllByRecursion (λ x. p x ≡ true → q x ≡ true) xs → list_any p xs ≡ true → list_any q xs ≡ true
  any-some p q [] h e = e
  any-some p q (x ∷ xs) h e =
      elim (bool-cases (p x)) [
        | inl t ↦ or-left (q x) (list_any q xs) (h.0 t)
        | inr f ↦ or-right (q x) (list_any q xs) (any-some p q xs h.1 (or-rest (p x) (list_any p xs) f e))
      ]

  -- the same, where a filter keeps it
  pub any-kept : (p r q : X → Bool) (xs : List X) → AllByRecursion (λ x. p x ≡ true → (r x ≡ true) × (q x ≡ true)) xs → list_any p xs ≡ true → list_any q (filter r xs) ≡ true
  any-kept p r q [] h e = e
  any-kept p r q (x ∷ xs) h e =
      elim (bool-cases (p x)) [
        | inl t ↦ rw (h.0 t).0 (or-left (q x) (list_any q (filter r xs)) (h.0 t).1)
        | inr f ↦
            (let later = any-kept p r q xs h.1 (or-rest (p x) (list_any p xs) f e) in
            elim (bool-cases (r x)) [
              | inl y ↦ rw y (or-right (q x) (list_any q (filter r xs)) later)
              | inr n ↦ rw n later
            ])
      ]

  pub any-map : (p : X → Bool) (f : X → X) (xs : List X) → list_any p (map f xs) ≡ list_any (λ x. p (f x)) xs
  any-map p f [] = refl
  any-map p f (x ∷ xs) = ap (λ b. p (f x) || b) (any-map p f xs)

  pub any-push : (p : X → Bool) (xs : List X) (y : X) → list_any p xs ≡ true → list_any p (xs ++ y ∷ []) ≡ true
  any-push p [] y e = absurd (false≢true e)
  any-push p (x ∷ xs) y e =
      elim (bool-cases (p x)) [
        | inl t ↦ or-left (p x) (list_any p (xs ++ y ∷ [])) t
        | inr f ↦ or-right (p x) (list_any p (xs ++ y ∷ [])) (any-push p xs y (or-rest (p x) (list_any p xs) f e))
      ]

  pub any-last : (p : X → Bool) (xs : List X) (y : X) → p y ≡ true → list_any p (xs ++ y ∷ []) ≡ true
  any-last p [] y e = or-left (p y) false e
  any-last p (x ∷ xs) y e = or-right (p x) (list_any p (xs ++ y ∷ [])) (any-last p xs y e)

  pub any-some_of : (p : X → Bool) (xs : List X) → list_any p xs ≡ true → 0 < length (filter p xs)
  any-some_of p [] e = absurd (false≢true e)
  any-some_of p (x ∷ xs) e =
      elim (bool-cases (p x)) [
        | inl t ↦ rw t (omega arith)
        | inr f ↦ rw f (any-some_of p xs (or-rest (p x) (list_any p xs) f e))
      ]

  -- a filter that leaves one out is shorter
  pub length-filter_less : (p : X → Bool) (xs : List X) → list_any p xs ≡ true → length (filter (λ x. not (p x)) xs) < length xs
  length-filter_less p xs e =
      let both = length-filter_both p (λ x. not (p x)) (λ x. refl) xs in
      let some = any-some_of p xs e in
      omega arith
