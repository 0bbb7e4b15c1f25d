-- A list of which a front was mapped.
use Rattle.std.proofs.Common.{◌≡◌, ◌∙◌, ℕ, zero, suc, ◌+◌, ◌<◌, ◌≤◌, List, [], ◌∷◌, ◌++◌, length, take, drop, map, get_or, refl, sym, ap, arith, add-one}
use Rattle.std.proofs.Math.ListN.{set}

-- the first n were mapped, and the others are as they were
abbrev pub Front : {X : Type 0} → (X → X) → ℕ → List X → List X → Type 0
Front f n old new = new ≡ map f (take n old) ++ drop n old

pub front_none : {X : Type 0} (f : X → X) (xs : List X) → Front f 0 xs xs
front_none f xs = refl

mapped-more : {X : Type 0} (f : X → X) (i : ℕ) (xs : List X) (x : X) → i < length xs
    → set (map f (take i xs) ++ drop i xs) i (f (get_or xs i x)) ≡ map f (take (suc i) xs) ++ drop (suc i) xs
mapped-more f i [] x lt = absurd (omega arith)
mapped-more f zero (y ∷ xs) x lt = refl
mapped-more f (suc i) (y ∷ xs) x lt = ap (λ zs. f y ∷ zs) (mapped-more f i xs x (omega arith))

pub front_at : {X : Type 0} (f : X → X) (i : ℕ) (old new : List X) (x : X) → Front f i old new → i < length old → get_or new i x ≡ get_or old i x
front_at f i old new x front lt = ap (λ zs. get_or zs i x) front ∙ at f i old x lt
  where
    at : {X : Type 0} (f : X → X) (i : ℕ) (xs : List X) (x : X) → i < length xs → get_or (map f (take i xs) ++ drop i xs) i x ≡ get_or xs i x
    at f i [] x lt = absurd (omega arith)
    at f zero (y ∷ xs) x lt = refl
    at f (suc i) (y ∷ xs) x lt = at f i xs x (omega arith)

pub front_length : {X : Type 0} (f : X → X) (i : ℕ) (old new : List X) → Front f i old new → length new ≡ length old
front_length f i old new front = ap (λ zs. length zs) front ∙ long f i old
  where
    long : {X : Type 0} (f : X → X) (i : ℕ) (xs : List X) → length (map f (take i xs) ++ drop i xs) ≡ length xs
    long f zero xs = refl
    long f (suc i) [] = refl
    long f (suc i) (y ∷ xs) = ap suc (long f i xs)

-- one more was
pub front_more : {X : Type 0} (f : X → X) (i : ℕ) (old new : List X) (x y : X) → Front f i old new → i < length old → x ≡ get_or new i x → y ≡ f x
    → Front f (i + 1) old (set new i y)
front_more f i old new x y front lt is made =
    let here : x ≡ get_or old i x = is ∙ front_at f i old new x front lt in
    ap (λ z. set new i z) (made ∙ ap f here) ∙ ap (λ zs. set zs i (f (get_or old i x))) front
    ∙ mapped-more f i old x lt ∙ ap (λ n. map f (take n old) ++ drop n old) (sym (add-one i))

pub front_all : {X : Type 0} (f : X → X) (i : ℕ) (old new : List X) → Front f i old new → length old ≤ i → new ≡ map f old
front_all f i old new front le = front ∙ whole f i old le
  where
    whole : {X : Type 0} (f : X → X) (i : ℕ) (xs : List X) → length xs ≤ i → map f (take i xs) ++ drop i xs ≡ map f xs
    whole f zero [] le = refl
    whole f zero (y ∷ xs) le = absurd (omega arith)
    whole f (suc i) [] le = refl
    whole f (suc i) (y ∷ xs) le = ap (λ zs. f y ∷ zs) (whole f i xs (omega arith))

-- what is written has the same image
pub map-set : {X Y : Type 0} (f : X → Y) (i : ℕ) (xs : List X) (x y : X) → x ≡ get_or xs i x → f y ≡ f x → map f (set xs i y) ≡ map f xs
map-set f i [] x y is same = refl
map-set f zero (z ∷ xs) x y is same = ap (λ w. w ∷ map f xs) (same ∙ ap f is)
map-set f (suc i) (z ∷ xs) x y is same = ap (λ ws. f z ∷ ws) (map-set f i xs x y is same)
