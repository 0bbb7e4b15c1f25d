-- What two texts have in common.
use Rattle.std.proofs.Common.{◌≡◌, ◌≢◌, ◌∙◌, ℕ, zero, suc, ◌+◌, ◌<◌, ◌≤◌, inl, inr, List, [], ◌∷◌, ◌++◌, length, drop, get_or, refl, sym, ap, subst, arith}
use Rattle.std.specs.Prelude.{Bool, true, false, ◌==◌, if◌then◌else◌}
use Rattle.std.proofs.lemmas.Bool.{eq-eqb, eqb-true, ne_eqb, cases_eq}
use Rattle.std.proofs.lemmas.List.{drop_more, drop_all, append-nil}
use Rattle.audit_check.specs.Difference.{common}

-- the same octet goes on, and another ends it
pub same-more : (x y : ℕ) (xs ys : List ℕ) → x ≡ y → common (x ∷ xs) (y ∷ ys) ≡ suc (common xs ys)
same-more x y xs ys e = rw (eq-eqb x y e) refl

pub other-none : (x y : ℕ) (xs ys : List ℕ) → x ≢ y → common (x ∷ xs) (y ∷ ys) ≡ 0
other-none x y xs ys e = rw (ne_eqb x y e) refl

none-left : (xs : List ℕ) → common xs [] ≡ 0
none-left [] = refl
none-left (x ∷ xs) = refl

-- one more octet of two texts
pub step-more : (xs ys : List ℕ) (i n : ℕ) → i < length xs → i < length ys → get_or xs i 0 ≡ get_or ys i 0
    → n ≡ i + common (drop i xs) (drop i ys) → n ≡ (i + 1) + common (drop (i + 1) xs) (drop (i + 1) ys)
step-more xs ys i n a b e was =
    let step : common (drop i xs) (drop i ys) ≡ suc (common (drop (i + 1) xs) (drop (i + 1) ys)) =
    rw (drop_more xs i 0 a, drop_more ys i 0 b) (same-more (get_or xs i 0) (get_or ys i 0) (drop (i + 1) xs) (drop (i + 1) ys) e) in
    omega arith

pub step-none : (xs ys : List ℕ) (i n : ℕ) → i < length xs → i < length ys → get_or xs i 0 ≢ get_or ys i 0
    → n ≡ i + common (drop i xs) (drop i ys) → n ≡ i
step-none xs ys i n a b e was =
    let step : common (drop i xs) (drop i ys) ≡ 0 =
    rw (drop_more xs i 0 a, drop_more ys i 0 b) (other-none (get_or xs i 0) (get_or ys i 0) (drop (i + 1) xs) (drop (i + 1) ys) e) in
    omega arith

pub step-end : (xs ys : List ℕ) (i n : ℕ) → (length xs ≤ i) → n ≡ i + common (drop i xs) (drop i ys) → n ≡ i
step-end xs ys i n a was =
    let step : common (drop i xs) (drop i ys) ≡ 0 = rw (drop_all i xs a) refl in
    omega arith

pub step-over : (xs ys : List ℕ) (i n : ℕ) → (length ys ≤ i) → n ≡ i + common (drop i xs) (drop i ys) → n ≡ i
step-over xs ys i n a was =
    let step : common (drop i xs) (drop i ys) ≡ 0 = rw (drop_all i ys a) (none-left (drop i xs)) in
    omega arith

-- it is a front of both
pub within-one : (xs ys : List ℕ) → common xs ys ≤ length xs
within-one [] ys = omega arith
within-one (x ∷ xs) [] = omega arith
within-one (x ∷ xs) (y ∷ ys) = elim (cases_eq x y) [
  | inl e ↦ let ih = within-one xs ys in let s = same-more x y xs ys e in omega arith
  | inr e ↦ let s = other-none x y xs ys e in omega arith
]

pub within-other : (xs ys : List ℕ) → common xs ys ≤ length ys
within-other [] ys = omega arith
within-other (x ∷ xs) [] = omega arith
within-other (x ∷ xs) (y ∷ ys) = elim (cases_eq x y) [
  | inl e ↦ let ih = within-other xs ys in let s = same-more x y xs ys e in omega arith
  | inr e ↦ let s = other-none x y xs ys e in omega arith
]

-- behind a front in common
pub after-same : (front xs ys : List ℕ) → common (front ++ xs) (front ++ ys) ≡ length front + common xs ys
after-same [] xs ys = omega arith
after-same (f ∷ fs) xs ys = let ih = after-same fs xs ys in let s = same-more f f (fs ++ xs) (fs ++ ys) refl in omega arith

pub all-same : (xs : List ℕ) → common xs xs ≡ length xs
all-same [] = refl
all-same (x ∷ xs) = let ih = all-same xs in let s = same-more x x xs xs refl in omega arith

-- a text that is a front of the other as a whole
pub other-front : (xs ys : List ℕ) → common xs ys ≡ length ys → xs ≡ ys ++ drop (length ys) xs
other-front xs [] e = refl
other-front [] (y ∷ ys) e = absurd (omega arith)
other-front (x ∷ xs) (y ∷ ys) e = elim (cases_eq x y) [
  | inl q ↦
      let s = same-more x y xs ys q in
      let ih = other-front xs ys (omega arith) in
      cc
  | inr q ↦ let s = other-none x y xs ys q in absurd (omega arith)
]

pub one-front : (xs ys : List ℕ) → common xs ys ≡ length xs → ys ≡ xs ++ drop (length xs) ys
one-front [] ys e = refl
one-front (x ∷ xs) [] e = absurd (omega arith)
one-front (x ∷ xs) (y ∷ ys) e = elim (cases_eq x y) [
  | inl q ↦
      let s = same-more x y xs ys q in
      let ih = one-front xs ys (omega arith) in
      cc
  | inr q ↦ let s = other-none x y xs ys q in absurd (omega arith)
]

-- what follows a difference changes nothing
pub before-more : (xs ys more : List ℕ) → common xs ys < length ys → common xs (ys ++ more) ≡ common xs ys
before-more xs [] more lt = absurd (omega arith)
before-more [] (y ∷ ys) more lt = refl
before-more (x ∷ xs) (y ∷ ys) more lt = elim (cases_eq x y) [
  | inl q ↦
      let s = same-more x y xs ys q in
      let t = same-more x y xs (ys ++ more) q in
      let ih = before-more xs ys more (omega arith) in
      omega arith
  | inr q ↦ other-none x y xs (ys ++ more) q ∙ sym (other-none x y xs ys q)
]

-- two texts of which one goes on behind the front in common are two
pub differ : (xs ys : List ℕ) → common xs ys < length ys → xs ≢ ys
differ xs ys lt e =
    let s = all-same ys in
    let t : common xs ys ≡ common ys ys = ap (λ (zs : List ℕ). common zs ys) e in
    omega arith
