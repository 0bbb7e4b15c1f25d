-- What is picked out of lists, in one pass or in two.
use Rattle.std.proofs.Common.{◌≡◌, ◌∙◌, Bool, true, ◌&&◌, List, [], ◌∷◌, ◌++◌, map, refl, sym, ap, inl, inr}
use Rattle.std.specs.Prelude.{if◌then◌else◌}
use Rattle.std.specs.List.{filter, flat_map}
use Rattle.std.proofs.lemmas.Bool.{cases_Bool, cond-true, cond-false}
use Rattle.conference_spec.proofs.Members.{In}

-- a change that a filter doesn't see, and that another one keeps step with
pub changed : {A B : Type 0} (f : A → A) (p : A → Bool) (q : A → B) (r : B → B) → ((x : A) → p (f x) ≡ p x) → ((x : A) → q (f x) ≡ r (q x)) →
    (xs : List A) → map q (filter p (map f xs)) ≡ map r (map q (filter p xs))
changed f p q r same steps [] = refl
changed {A} f p q r same steps (x ∷ xs) =
    let ih = changed f p q r same steps xs in
    let rest = filter p (map f xs) in
    elim (cases_Bool (p x)) [
      | inl t ↦
          ap (map q) (cond-true {A = List A} (p (f x)) (f x ∷ rest) rest (same x ∙ t))
          ∙ ap (λ y. y ∷ map q rest) (steps x) ∙ ap (λ ys. r (q x) ∷ ys) ih
          ∙ sym (ap (λ ys. map r (map q ys)) (cond-true {A = List A} (p x) (x ∷ filter p xs) (filter p xs) t))
      | inr t ↦
          ap (map q) (cond-false {A = List A} (p (f x)) (f x ∷ rest) rest (same x ∙ t))
          ∙ ih
          ∙ sym (ap (λ ys. map r (map q ys)) (cond-false {A = List A} (p x) (x ∷ filter p xs) (filter p xs) t))
    ]

-- a change that another filter sees as one that comes after the first
pub narrowed : {A B : Type 0} (f : A → A) (p' p : A → Bool) (q : A → B) (n : B → Bool) → ((x : A) → p' (f x) ≡ p x && n (q x)) → ((x : A) → q (f x) ≡ q x) →
    (xs : List A) → map q (filter p' (map f xs)) ≡ filter n (map q (filter p xs))
narrowed f p' p q n both same [] = refl
narrowed {A} {B} f p' p q n both same (x ∷ xs) =
    let ih = narrowed f p' p q n both same xs in
    let rest = filter p' (map f xs) in
    elim (cases_Bool (p x)) [
      | inl t ↦ elim (cases_Bool (n (q x))) [
        | inl u ↦
            ap (map q) (cond-true {A = List A} (p' (f x)) (f x ∷ rest) rest (both x ∙ ap (λ b. b && n (q x)) t ∙ u))
            ∙ ap (λ y. y ∷ map q rest) (same x) ∙ ap (λ ys. q x ∷ ys) ih
            ∙ sym (ap (λ ys. filter n (map q ys)) (cond-true {A = List A} (p x) (x ∷ filter p xs) (filter p xs) t)
            ∙ cond-true {A = List B} (n (q x)) (q x ∷ filter n (map q (filter p xs))) (filter n (map q (filter p xs))) u)
        | inr u ↦
            ap (map q) (cond-false {A = List A} (p' (f x)) (f x ∷ rest) rest (both x ∙ ap (λ b. b && n (q x)) t ∙ u))
            ∙ ih
            ∙ sym (ap (λ ys. filter n (map q ys)) (cond-true {A = List A} (p x) (x ∷ filter p xs) (filter p xs) t)
            ∙ cond-false {A = List B} (n (q x)) (q x ∷ filter n (map q (filter p xs))) (filter n (map q (filter p xs))) u)
      ]
      | inr t ↦
          ap (map q) (cond-false {A = List A} (p' (f x)) (f x ∷ rest) rest (both x ∙ ap (λ b. b && n (q x)) t))
          ∙ ih
          ∙ sym (ap (λ ys. filter n (map q ys)) (cond-false {A = List A} (p x) (x ∷ filter p xs) (filter p xs) t))
    ]

pub over-map : {A B C : Type 0} (f : B → List C) (g : A → B) (xs : List A) → flat_map f (map g xs) ≡ flat_map (λ x. f (g x)) xs
over-map f g [] = refl
over-map f g (x ∷ xs) = ap (λ ys. f (g x) ++ ys) (over-map f g xs)

-- what the second of two filters picks is what it picks alone
pub picked : {A B C : Type 0} (p q : A → Bool) (f : A → List C) (h : A → B) (g : B → List C) (xs : List A) → ((x : A) → p x ≡ true → q x ≡ true) →
    ((x : A) → In x xs → p x ≡ true → f x ≡ g (h x)) → flat_map (λ x. if p x then f x else []) (filter q xs) ≡ flat_map g (map h (filter p xs))
picked p q f h g [] within same = refl
picked {A} {B} {C} p q f h g (x ∷ xs) within same =
    let ih = picked p q f h g xs within (λ y i. same y (inr i)) in
    let one : A → List C = λ y. if p y then f y else [] in
    elim (cases_Bool (p x)) [
      | inl t ↦
          ap (flat_map one) (cond-true {A = List A} (q x) (x ∷ filter q xs) (filter q xs) (within x t))
          ∙ ap (λ ys. ys ++ flat_map one (filter q xs)) (cond-true {A = List C} (p x) (f x) [] t ∙ same x (inl refl) t)
          ∙ ap (λ ys. g (h x) ++ ys) ih
          ∙ sym (ap (λ ys. flat_map g (map h ys)) (cond-true {A = List A} (p x) (x ∷ filter p xs) (filter p xs) t))
      | inr t ↦
          (elim (cases_Bool (q x)) [
            | inl u ↦
                ap (flat_map one) (cond-true {A = List A} (q x) (x ∷ filter q xs) (filter q xs) u)
                ∙ ap (λ ys. ys ++ flat_map one (filter q xs)) (cond-false {A = List C} (p x) (f x) [] t)
            | inr u ↦ ap (flat_map one) (cond-false {A = List A} (q x) (x ∷ filter q xs) (filter q xs) u)
          ])
          ∙ ih
          ∙ sym (ap (λ ys. flat_map g (map h ys)) (cond-false {A = List A} (p x) (x ∷ filter p xs) (filter p xs) t))
    ]

-- all that a filter picks
pub picked-all : {A B C : Type 0} (p : A → Bool) (f : A → List C) (h : A → B) (g : B → List C) (xs : List A) →
    ((x : A) → In x xs → p x ≡ true → f x ≡ g (h x)) → flat_map f (filter p xs) ≡ flat_map g (map h (filter p xs))
picked-all p f h g [] same = refl
picked-all {A} p f h g (x ∷ xs) same =
    let ih = picked-all p f h g xs (λ y i. same y (inr i)) in
    elim (cases_Bool (p x)) [
      | inl t ↦
          ap (flat_map f) (cond-true {A = List A} (p x) (x ∷ filter p xs) (filter p xs) t)
          ∙ ap (λ ys. ys ++ flat_map f (filter p xs)) (same x (inl refl) t)
          ∙ ap (λ ys. g (h x) ++ ys) ih
          ∙ sym (ap (λ ys. flat_map g (map h ys)) (cond-true {A = List A} (p x) (x ∷ filter p xs) (filter p xs) t))
      | inr t ↦
          ap (flat_map f) (cond-false {A = List A} (p x) (x ∷ filter p xs) (filter p xs) t)
          ∙ ih
          ∙ sym (ap (λ ys. flat_map g (map h ys)) (cond-false {A = List A} (p x) (x ∷ filter p xs) (filter p xs) t))
    ]
