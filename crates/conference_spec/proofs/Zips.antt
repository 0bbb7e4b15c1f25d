-- Lists zipped with one another, and what of them passes a test.
use Rattle.std.proofs.Common.{◌≡◌, suc, inl, inr, Bool, true, false, ◌&&◌, ◌||◌, cond, List, [], ◌∷◌, ◌++◌, length, map, refl, sym, ◌∙◌, ap, subst, arith}
use Rattle.std.specs.List.{filter, flat_map, list_any, list_all, AllZip}
use Rattle.std.proofs.lemmas.Bool.{cases_Bool, cond-true, cond-false}
use Rattle.conference_spec.proofs.Members.{In}

pub zip-push : {A B : Type 0} (R : A → B → Type 0) (xs : List A) (ys : List B) (x : A) (y : B) → AllZip R xs ys → R x y → AllZip R (xs ++ x ∷ []) (ys ++ y ∷ [])
zip-push R [] [] x y z r = (r, tt)
zip-push R [] (b ∷ ys) x y z r = absurd z
zip-push R (a ∷ xs) [] x y z r = absurd z
zip-push R (a ∷ xs) (b ∷ ys) x y z r = (z.0, zip-push R xs ys x y z.1 r)

pub zip-filter : {A B : Type 0} (R : A → B → Type 0) (p : A → Bool) (q : B → Bool) (xs : List A) (ys : List B) → ((x : A) (y : B) → R x y → p x ≡ q y)
    → AllZip R xs ys → AllZip R (filter p xs) (filter q ys)
zip-filter R p q [] [] e z = tt
zip-filter R p q [] (y ∷ ys) e z = absurd z
zip-filter R p q (x ∷ xs) [] e z = absurd z
zip-filter {A} {B} R p q (x ∷ xs) (y ∷ ys) e z =
    let rest = zip-filter R p q xs ys e z.1 in
    let P : List A → List B → Type 0 = λ us vs. AllZip R us vs in
    let same = e x y z.0 in
    elim (cases_Bool (p x)) [
      | inl t ↦
          subst (λ us. P us (filter q (y ∷ ys))) (sym (cond-true (p x) (x ∷ filter p xs) (filter p xs) t))
          (subst (P (x ∷ filter p xs)) (sym (cond-true (q y) (y ∷ filter q ys) (filter q ys) (sym same ∙ t))) (z.0, rest))
      | inr t ↦
          subst (λ us. P us (filter q (y ∷ ys))) (sym (cond-false (p x) (x ∷ filter p xs) (filter p xs) t))
          (subst (P (filter p xs)) (sym (cond-false (q y) (y ∷ filter q ys) (filter q ys) (sym same ∙ t))) rest)
    ]

pub zip-map : {A B C D : Type 0} (R : A → B → Type 0) (S : C → D → Type 0) (f : A → C) (g : B → D) (xs : List A) (ys : List B)
    → ((x : A) (y : B) → R x y → S (f x) (g y)) → AllZip R xs ys → AllZip S (map f xs) (map g ys)
zip-map R S f g [] [] e z = tt
zip-map R S f g [] (y ∷ ys) e z = absurd z
zip-map R S f g (x ∷ xs) [] e z = absurd z
zip-map R S f g (x ∷ xs) (y ∷ ys) e z = (e x y z.0, zip-map R S f g xs ys e z.1)

-- what is the same of each pair makes one list
pub zip-same : {A B C : Type 0} (R : A → B → Type 0) (f : A → C) (g : B → C) (xs : List A) (ys : List B) → ((x : A) (y : B) → R x y → f x ≡ g y)
    → AllZip R xs ys → map f xs ≡ map g ys
zip-same R f g [] [] e z = refl
zip-same R f g [] (y ∷ ys) e z = absurd z
zip-same R f g (x ∷ xs) [] e z = absurd z
zip-same R f g (x ∷ xs) (y ∷ ys) e z = λ i. e x y z.0 i ∷ zip-same R f g xs ys e z.1 i

pub zip-flat : {A B C : Type 0} (R : A → B → Type 0) (f : A → List C) (g : B → List C) (xs : List A) (ys : List B) → ((x : A) (y : B) → R x y → f x ≡ g y)
    → AllZip R xs ys → flat_map f xs ≡ flat_map g ys
zip-flat R f g [] [] e z = refl
zip-flat R f g [] (y ∷ ys) e z = absurd z
zip-flat R f g (x ∷ xs) [] e z = absurd z
zip-flat R f g (x ∷ xs) (y ∷ ys) e z = λ i. e x y z.0 i ++ zip-flat R f g xs ys e z.1 i

pub zip-length : {A B : Type 0} (R : A → B → Type 0) (xs : List A) (ys : List B) → AllZip R xs ys → length xs ≡ length ys
zip-length R [] [] z = refl
zip-length R [] (y ∷ ys) z = absurd z
zip-length R (x ∷ xs) [] z = absurd z
zip-length R (x ∷ xs) (y ∷ ys) z = λ i. suc (zip-length R xs ys z.1 i)

pub zip-any : {A B : Type 0} (R : A → B → Type 0) (p : A → Bool) (q : B → Bool) (xs : List A) (ys : List B) → ((x : A) (y : B) → R x y → p x ≡ q y)
    → AllZip R xs ys → list_any p xs ≡ list_any q ys
zip-any R p q [] [] e z = refl
zip-any R p q [] (y ∷ ys) e z = absurd z
zip-any R p q (x ∷ xs) [] e z = absurd z
zip-any R p q (x ∷ xs) (y ∷ ys) e z = λ i. e x y z.0 i || zip-any R p q xs ys e z.1 i

-- and where one list is made of both, they are zipped by what that says of a pair
pub same-zip : {A B C : Type 0} (R : A → B → Type 0) (f : A → C) (g : B → C) (xs : List A) (ys : List B)
    → ((x : A) (y : B) → In x xs → In y ys → f x ≡ g y → R x y) → map f xs ≡ map g ys → AllZip R xs ys
same-zip R f g [] [] r e = tt
same-zip R f g [] (y ∷ ys) r e = cc
same-zip R f g (x ∷ xs) [] r e = cc
same-zip R f g (x ∷ xs) (y ∷ ys) r e =
    let head : f x ≡ g y = cc in
    let rest : map f xs ≡ map g ys = cc in
    (r x y (inl refl) (inl refl) head, same-zip R f g xs ys (λ a b i j. r a b (inr i) (inr j)) rest)

-- ---- a test that says yes only where another does ----

pub filter-through : {X : Type 0} (p q : X → Bool) (xs : List X) → ((x : X) → In x xs → p x ≡ false → q x ≡ false) → filter q xs ≡ filter q (filter p xs)
filter-through p q [] within = refl
filter-through p q (x ∷ xs) within =
    let ih = filter-through p q xs (λ y i. within y (inr i)) in
    elim (cases_Bool (p x)) [
      | inl t ↦ ap (λ ys. cond (q x) (x ∷ ys) ys) ih ∙ sym (ap (filter q) (cond-true (p x) (x ∷ filter p xs) (filter p xs) t))
      | inr t ↦
          cond-false (q x) (x ∷ filter q xs) (filter q xs) (within x (inl refl) t) ∙ ih
          ∙ sym (ap (filter q) (cond-false (p x) (x ∷ filter p xs) (filter p xs) t))
    ]

-- the same after a change of each
pub filter-changed : {X Y : Type 0} (f : X → Y) (p : X → Bool) (q : Y → Bool) (xs : List X) → ((x : X) → In x xs → p x ≡ false → q (f x) ≡ false)
    → filter q (map f xs) ≡ filter q (map f (filter p xs))
filter-changed f p q [] within = refl
filter-changed f p q (x ∷ xs) within =
    let ih = filter-changed f p q xs (λ y i. within y (inr i)) in
    elim (cases_Bool (p x)) [
      | inl t ↦
          ap (λ ys. cond (q (f x)) (f x ∷ ys) ys) ih
          ∙ sym (ap (λ zs. filter q (map f zs)) (cond-true (p x) (x ∷ filter p xs) (filter p xs) t))
      | inr t ↦
          cond-false (q (f x)) (f x ∷ filter q (map f xs)) (filter q (map f xs)) (within x (inl refl) t) ∙ ih
          ∙ sym (ap (λ zs. filter q (map f zs)) (cond-false (p x) (x ∷ filter p xs) (filter p xs) t))
    ]

-- whether all pass, where those that another test leaves out do
pub all-through : {X : Type 0} (p q : X → Bool) (xs : List X) → ((x : X) → In x xs → q x ≡ false → p x ≡ true) → list_all p xs ≡ list_all p (filter q xs)
all-through p q [] out = refl
all-through p q (x ∷ xs) out =
    let ih = all-through p q xs (λ y i. out y (inr i)) in
    elim (cases_Bool (q x)) [
      | inl t ↦ ap (λ b. p x && b) ih ∙ sym (ap (list_all p) (cond-true (q x) (x ∷ filter q xs) (filter q xs) t))
      | inr t ↦
          ap (λ b. b && list_all p xs) (out x (inl refl) t) ∙ ih
          ∙ sym (ap (list_all p) (cond-false (q x) (x ∷ filter q xs) (filter q xs) t))
    ]

pub none-there : {X : Type 0} (xs : List X) → length xs ≡ 0 → xs ≡ []
none-there [] e = refl
none-there (x ∷ xs) e = absurd (omega arith)
