-- Lists in step, and the first items of a list.
use Rattle.std.proofs.Common.{suc, zero, ◌≡◌, ℕ, ◌+◌, ◌<◌, Bool, true, false, ◌&&◌, List, [], ◌∷◌, ◌++◌, length, get_or, take, refl, sym, ◌∙◌, ap, subst, arith}
use Rattle.std.specs.Prelude.{slice_get, Some}
use Rattle.std.specs.List.{AllZip, list_all}
use Rattle.std.proofs.lemmas.Bool.{and_from, and_parts}
use Rattle.book_lists.proofs.Joining.{zip-push}

-- one item more of those that come first
pub take-one : {X : Type 0} (xs : List X) (i : ℕ) (d : X) → i < length xs → take (i + 1) xs ≡ take i xs ++ get_or xs i d ∷ []
take-one [] i d lt = absurd (omega arith)
take-one {X} (x ∷ xs) i d lt =
    let at : (i : ℕ) → i < length (x ∷ xs) → take (suc i) (x ∷ xs) ≡ take i (x ∷ xs) ++ get_or (x ∷ xs) i d ∷ [] = elim [
      | zero ↦ λ lt. refl
      | suc i ↦ λ lt. (let e : suc i ≡ i + 1 = omega arith in ap (λ (ys : List X). x ∷ ys) (ap (λ (k : ℕ). take k xs) e ∙ take-one xs i d (omega arith)))
    ] in
    let e : i + 1 ≡ suc i = omega arith in
    ap (λ (k : ℕ). take k (x ∷ xs)) e ∙ at i lt

pub zip-take : {X Y : Type 0} (R : X → Y → Type 0) (xs : List X) (ys : List Y) (i : ℕ) (d : X) (y : Y) → i < length xs → AllZip R (take i xs) ys
    → R (get_or xs i d) y → AllZip R (take (i + 1) xs) (ys ++ y ∷ [])
zip-take {X} R xs ys i d y lt z r =
    subst (λ (us : List X). AllZip R us (ys ++ y ∷ [])) (sym (take-one xs i d lt)) (zip-push R (take i xs) ys (get_or xs i d) y z r)

pub all-take : {X : Type 0} (p : X → Bool) (xs : List X) (i : ℕ) (d : X) → i < length xs → list_all p (take i xs) ≡ true → p (get_or xs i d) ≡ true
    → list_all p (take (i + 1) xs) ≡ true
all-take {X} p xs i d lt all here = ap (λ (us : List X). list_all p us) (take-one xs i d lt) ∙ all-push (take i xs) (get_or xs i d) all here
  where
    all-push : (us : List X) (u : X) → list_all p us ≡ true → p u ≡ true → list_all p (us ++ u ∷ []) ≡ true
    all-push [] u a h = and_from (p u) true h refl
    all-push (w ∷ us) u a h = let q = and_parts (p w) (list_all p us) a in and_from (p w) (list_all p (us ++ u ∷ [])) q.0 (all-push us u q.1 h)

-- one that fails
pub one-fails : {X : Type 0} (p : X → Bool) (xs : List X) (i : ℕ) (x : X) → slice_get xs i ≡ Some x → p x ≡ false → list_all p xs ≡ false
one-fails p [] i x e h = cc
one-fails {X} p (w ∷ xs) i x e h =
    let at : (i : ℕ) → slice_get (w ∷ xs) i ≡ Some x → list_all p (w ∷ xs) ≡ false = elim [
      | zero ↦ λ e. (let q : w ≡ x = cc in let f : p w ≡ false = ap p q ∙ h in ap (λ b. b && list_all p xs) f)
      | suc i ↦ λ e. (let ih = one-fails p xs i x e h in and-false (p w) (list_all p xs) ih)
    ] in
    at i e
  where
    and-false : (a b : Bool) → b ≡ false → (a && b) ≡ false
    and-false true b e = e
    and-false false b e = refl
