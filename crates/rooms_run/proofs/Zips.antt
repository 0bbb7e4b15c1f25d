-- Two lists, place by place.
use Rattle.std.proofs.Common.{◌≡◌, ℕ, zero, suc, ◌+◌, ◌<◌, List, [], ◌∷◌, ◌++◌, length, get_or, reverse, take, map, All, Some, refl, sym, ap, ◌∙◌, subst, arith}
use Rattle.std.specs.List.{AllZip, slice_get, slice_index_or}
use Rattle.std.proofs.lemmas.List.{reverse-append, reverse-reverse, take_more}
use Rattle.std.proofs.lemmas.Option.{slice_get_within, get_or_from_slice_get}
use Rattle.std.proofs.lemmas.List.Elements.{All-cons, All-nil}
use Rattle.rooms_run.specs.Seating.{EachRan}

module _ {A B : Type 0} (R : A → B → Type 0) where
  pub zip_both : (xs us : List A) (ys vs : List B) → AllZip R xs ys → AllZip R us vs → AllZip R (xs ++ us) (ys ++ vs)
  zip_both [] us [] vs all more = more
  zip_both [] us (y ∷ ys) vs all more = absurd all
  zip_both (x ∷ xs) us [] vs all more = absurd all
  zip_both (x ∷ xs) us (y ∷ ys) vs all more = (all.0, zip_both xs us ys vs all.1 more)

  pub zip_push : (xs : List A) (ys : List B) (x : A) (y : B) → AllZip R xs ys → R x y → AllZip R (xs ++ x ∷ []) (ys ++ y ∷ [])
  zip_push xs ys x y all is = zip_both xs (x ∷ []) ys (y ∷ []) all (is, tt)

  pub zip_reverse : (xs : List A) (ys : List B) → AllZip R xs ys → AllZip R (reverse xs) (reverse ys)
  zip_reverse [] [] all = tt
  zip_reverse [] (y ∷ ys) all = absurd all
  zip_reverse (x ∷ xs) [] all = absurd all
  zip_reverse (x ∷ xs) (y ∷ ys) all =
      rw (reverse-append (x ∷ []) xs, reverse-append (y ∷ []) ys) (zip_push (reverse xs) (reverse ys) x y (zip_reverse xs ys all.1) all.0)

  pub zip_long : (xs : List A) (ys : List B) → AllZip R xs ys → length ys ≡ length xs
  zip_long [] [] all = refl
  zip_long [] (y ∷ ys) all = absurd all
  zip_long (x ∷ xs) [] all = absurd all
  zip_long (x ∷ xs) (y ∷ ys) all = let k : length ys ≡ length xs = zip_long xs ys all.1 in omega arith

  pub zip_right : (Q : B → Type 0) → ((x : A) (y : B) → R x y → Q y) → (xs : List A) (ys : List B) → AllZip R xs ys → All Q ys
  zip_right Q gives [] [] all = All-nil Q
  zip_right Q gives [] (y ∷ ys) all = absurd all
  zip_right Q gives (x ∷ xs) [] all = absurd all
  zip_right Q gives (x ∷ xs) (y ∷ ys) all = All-cons Q y ys (gives x y all.0) (zip_right Q gives xs ys all.1)

  pub zip_from_each : (xs : List A) (ys : List B) → length ys ≡ length xs
      → ((i : ℕ) (d : A) (e : B) → i < length xs → R (get_or xs i d) (get_or ys i e)) → AllZip R xs ys
  zip_from_each [] [] long each = tt
  zip_from_each [] (y ∷ ys) long each = absurd (omega arith)
  zip_from_each (x ∷ xs) [] long each = absurd (omega arith)
  zip_from_each (x ∷ xs) (y ∷ ys) long each =
      (each 0 x y (omega arith), zip_from_each xs ys (omega arith) (λ i d e lt. each (suc i) d e (omega arith)))

pub zip_along : {A B C : Type 0} (R : A → B → Type 0) (S : B → C → Type 0) (T : A → C → Type 0) → ((x : A) (y : B) (z : C) → R x y → S y z → T x z)
    → (xs : List A) (ys : List B) (zs : List C) → AllZip R xs ys → AllZip S ys zs → AllZip T xs zs
zip_along R S T both [] [] [] one two = tt
zip_along R S T both [] [] (z ∷ zs) one two = absurd two
zip_along R S T both [] (y ∷ ys) zs one two = absurd one
zip_along R S T both (x ∷ xs) [] zs one two = absurd one
zip_along R S T both (x ∷ xs) (y ∷ ys) [] one two = absurd two
zip_along R S T both (x ∷ xs) (y ∷ ys) (z ∷ zs) one two = (both x y z one.0 two.0, zip_along R S T both xs ys zs one.1 two.1)

-- the last of a list and those before it
pub last_of : {X : Type 0} (P : X → Type 0) (xs : List X) (y : X) → All P (xs ++ y ∷ []) → P y
last_of P [] y all = all 0 y (omega arith)
last_of P (x ∷ xs) y all = last_of P xs y (λ k d lt. all (suc k) d (omega arith))

pub front_of : {X : Type 0} (P : X → Type 0) (xs : List X) (y : X) → All P (xs ++ y ∷ []) → All P xs
front_of P [] y all = All-nil P
front_of P (x ∷ xs) y all = All-cons P x xs (all 0 x (omega arith)) (front_of P xs y (λ k d lt. all (suc k) d (omega arith)))

-- the same, where the list is the last and those before it by an equation
pub last_in : {X : Type 0} (ys xs : List X) (y : X) → ys ≡ xs ++ y ∷ [] → (P : X → Type 0) → All P ys → P y
last_in ys xs y is P all = last_of P xs y (subst (λ (zs : List _). All P zs) is all)

pub front_in : {X : Type 0} (ys xs : List X) (y : X) → ys ≡ xs ++ y ∷ [] → (P : X → Type 0) → All P ys → All P xs
front_in ys xs y is P all = front_of P xs y (subst (λ (zs : List _). All P zs) is all)

pub take_one_more : {X : Type 0} (xs : List X) (i : ℕ) (x : X) → slice_get xs i ≡ Some x → take (i + 1) xs ≡ take i xs ++ x ∷ []
take_one_more xs i x is =
    take_more xs i x (slice_get_within xs i x is) ∙ ap (λ (y : _). take i xs ++ y ∷ []) (get_or_from_slice_get xs i x x is)

module _ {A B : Type 0} (R : A → B → Type 0) where
  -- one more of a list whose first elements were gone through
  pub zip_more : (xs : List A) (ys : List B) (i : ℕ) (x : A) (y : B) → slice_get xs i ≡ Some x → AllZip R (take i xs) ys → R x y
      → AllZip R (take (i + 1) xs) (ys ++ y ∷ [])
  zip_more xs ys i x y is all r =
      subst (λ (us : List A). AllZip R us (ys ++ y ∷ [])) (sym (take_one_more xs i x is)) (zip_push R (take i xs) ys x y all r)

  pub zip_left : (Q : A → Type 0) → ((x : A) (y : B) → R x y → Q x) → (xs : List A) (ys : List B) → AllZip R xs ys → All Q xs
  zip_left Q gives [] [] all = All-nil Q
  zip_left Q gives [] (y ∷ ys) all = absurd all
  zip_left Q gives (x ∷ xs) [] all = absurd all
  zip_left Q gives (x ∷ xs) (y ∷ ys) all = All-cons Q x xs (gives x y all.0) (zip_left Q gives xs ys all.1)

  pub zip_map : {C : Type 0} (S : A → C → Type 0) (f : B → C) → ((x : A) (y : B) → R x y → S x (f y)) → (xs : List A) (ys : List B)
      → AllZip R xs ys → AllZip S xs (map f ys)
  zip_map S f gives [] [] all = tt
  zip_map S f gives [] (y ∷ ys) all = absurd all
  zip_map S f gives (x ∷ xs) [] all = absurd all
  zip_map S f gives (x ∷ xs) (y ∷ ys) all = (gives x y all.0, zip_map S f gives xs ys all.1)

pub zip_two : {A B : Type 0} (R S : A → B → Type 0) (Q : A → Type 0) → ((x : A) (y : B) → R x y → S x y → Q x) → (xs : List A) (ys : List B)
    → AllZip R xs ys → AllZip S xs ys → All Q xs
zip_two R S Q gives [] [] one two = All-nil Q
zip_two R S Q gives [] (y ∷ ys) one two = absurd one
zip_two R S Q gives (x ∷ xs) [] one two = absurd one
zip_two R S Q gives (x ∷ xs) (y ∷ ys) one two = All-cons Q x xs (gives x y one.0 two.0) (zip_two R S Q gives xs ys one.1 two.1)

pub zip_weaken : {A B : Type 0} (R S : A → B → Type 0) → ((x : A) (y : B) → R x y → S x y) → (xs : List A) (ys : List B) → AllZip R xs ys → AllZip S xs ys
zip_weaken R S gives [] [] all = tt
zip_weaken R S gives [] (y ∷ ys) all = absurd all
zip_weaken R S gives (x ∷ xs) [] all = absurd all
zip_weaken R S gives (x ∷ xs) (y ∷ ys) all = (gives x y all.0, zip_weaken R S gives xs ys all.1)

-- each of a list went its way
pub zip_each : {S : Type 0} (ran : S → S → Type 0) (xs ys : List S) → EachRan ran xs ys → AllZip ran xs ys
zip_each ran [] [] e = tt
zip_each ran [] (y ∷ ys) e = (let long = e.count in absurd (omega arith))
zip_each ran (x ∷ xs) [] e = (let long = e.count in absurd (omega arith))
zip_each ran (x ∷ xs) (y ∷ ys) e =
    (let long = e.count in (e.each 0 x (omega arith), zip_each ran xs ys (record { each = λ i d lt. e.each (suc i) d (omega arith); count = omega arith })))

-- what holds of each where the list is the other way round
pub zip_reversed : {A B : Type 0} (R : A → B → Type 0) (xs : List A) (ys : List B) → AllZip R (reverse xs) ys → AllZip R xs (reverse ys)
zip_reversed R xs ys all = subst (λ (us : List _). AllZip R us (reverse ys)) (reverse-reverse xs) (zip_reverse R (reverse xs) ys all)
