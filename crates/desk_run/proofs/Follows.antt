-- Records before a moment, and from it on.
use Rattle.std.proofs.Common.{◌≡◌, ◌<◌, ◌≤◌, ◌*◌, ◌+◌, ◌/◌, ◌++◌, ◌∷◌, inl, inr, [], ℕ, List, length, max, refl, sym, ap, ◌∙◌, subst, arith}
use Rattle.std.specs.Prelude.{nat_lt}
use Rattle.std.proofs.lemmas.Bool.{cases_lt, cond-true, cond-false, lt-ltb, le-ltb}
use Rattle.std.proofs.lemmas.List.{append_cancel_right}
use Rattle.rtp_dump.specs.declared.item.DumpItem.{DumpItem}
use Rattle.session_spec.specs.Captured.{until, from, ticks_ended}
use Rattle.desk_run.specs.Taking.{Before}
use Rattle.desk_run.proofs.Bounds.{length-from}

pub until-here : (m : ℕ) (i : DumpItem) (is : List DumpItem) → i.offset < m → until m (i ∷ is) ≡ i ∷ until m is
until-here m i is lt = cond-true (nat_lt i.offset m) (i ∷ until m is) [] (lt-ltb i.offset m lt)

pub until-stop : (m : ℕ) (i : DumpItem) (is : List DumpItem) → m ≤ i.offset → until m (i ∷ is) ≡ []
until-stop m i is le = cond-false (nat_lt i.offset m) (i ∷ until m is) [] (le-ltb i.offset m le)

pub from-here : (m : ℕ) (i : DumpItem) (is : List DumpItem) → i.offset < m → from m (i ∷ is) ≡ from m is
from-here m i is lt = cond-true (nat_lt i.offset m) (from m is) (i ∷ is) (lt-ltb i.offset m lt)

pub from-stop : (m : ℕ) (i : DumpItem) (is : List DumpItem) → m ≤ i.offset → from m (i ∷ is) ≡ i ∷ is
from-stop m i is le = cond-false (nat_lt i.offset m) (from m is) (i ∷ is) (le-ltb i.offset m le)

pub from-zero : (is : List DumpItem) → from 0 is ≡ is
from-zero [] = refl
from-zero (i ∷ is) = from-stop 0 i is (omega arith)

-- those that lie before a moment, and what follows them
pub until-front : (m : ℕ) (xs ys : List DumpItem) → Before m xs → until m (xs ++ ys) ≡ xs ++ until m ys
until-front m [] ys early = refl
until-front m (x ∷ xs) ys early = until-here m x (xs ++ ys) early.0 ∙ ap (λ (zs : List DumpItem). x ∷ zs) (until-front m xs ys early.1)

pub from-front : (m : ℕ) (xs ys : List DumpItem) → Before m xs → from m (xs ++ ys) ≡ from m ys
from-front m [] ys early = refl
from-front m (x ∷ xs) ys early = from-here m x (xs ++ ys) early.0 ∙ from-front m xs ys early.1

-- a later moment is past an earlier one
pub from-from : (m n : ℕ) (xs : List DumpItem) → m ≤ n → from n (from m xs) ≡ from n xs
from-from m n [] le = refl
from-from m n (x ∷ xs) le = elim (cases_lt x.offset m) [
  | inl lt ↦ ap (from n) (from-here m x xs lt) ∙ from-from m n xs le ∙ sym (from-here n x xs (omega arith))
  | inr late ↦ ap (from n) (from-stop m x xs late)
]

-- how many ticks are ended by two lists
pub ended-append : (xs ys : List DumpItem) → ticks_ended (xs ++ ys) ≡ max (ticks_ended xs) (ticks_ended ys)
ended-append [] ys = omega arith
ended-append (x ∷ xs) ys = let ih = ended-append xs ys in omega arith

pub head-same : (x i : DumpItem) (xs is : List DumpItem) → x ∷ xs ≡ i ∷ is → x ≡ i
head-same x i xs is e = cc

-- the first at or past a moment ends the ticks before it
pub ended-from : (m : ℕ) (xs : List DumpItem) (i : DumpItem) (is : List DumpItem) → from m xs ≡ i ∷ is → i.offset / 20 ≤ ticks_ended xs
ended-from m [] i is e = absurd (cc)
ended-from m (x ∷ xs) i is e = elim (cases_lt x.offset m) [
  | inl lt ↦ let ih = ended-from m xs i is (sym (from-here m x xs lt) ∙ e) in omega arith
  | inr late ↦ let same : x ≡ i = head-same x i xs is (sym (from-stop m x xs late) ∙ e) in omega (arith, ap (λ (d : DumpItem). d.offset / 20) same)
]

-- those before tick k + 1 end at most k ticks
pub ended-before : (k : ℕ) (xs : List DumpItem) → Before (20 * (k + 1)) xs → ticks_ended xs ≤ k
ended-before k [] early = omega arith
ended-before k (x ∷ xs) early = let ih = ended-before k xs early.1 in let here = early.0 in omega arith

-- and so do those of which no later one is left
pub ended-less : (k : ℕ) (xs : List DumpItem) → Before (20 * (k + 1)) (from (20 * k) xs) → ticks_ended xs ≤ k
ended-less k [] early = omega arith
ended-less k (x ∷ xs) early = elim (cases_lt x.offset (20 * k)) [
  | inl lt ↦
      let ih = ended-less k xs (subst (Before (20 * (k + 1))) (from-here (20 * k) x xs lt) early) in
      omega arith
  | inr late ↦ ended-before k (x ∷ xs) (subst (Before (20 * (k + 1))) (from-stop (20 * k) x xs late) early)
]

pub until-from : (m : ℕ) (xs : List DumpItem) → until m xs ++ from m xs ≡ xs
until-from m [] = refl
until-from m (x ∷ xs) = elim (cases_lt x.offset m) [
  | inl lt ↦
      ap (λ (ys : List DumpItem). ys ++ from m (x ∷ xs)) (until-here m x xs lt)
      ∙ ap (λ (ys : List DumpItem). x ∷ (until m xs ++ ys)) (from-here m x xs lt)
      ∙ ap (λ (ys : List DumpItem). x ∷ ys) (until-from m xs)
  | inr late ↦
      ap (λ (ys : List DumpItem). ys ++ from m (x ∷ xs)) (until-stop m x xs late) ∙ from-stop m x xs late
]

until-before : (m : ℕ) (xs : List DumpItem) → Before m (until m xs)
until-before m [] = tt
until-before m (x ∷ xs) = elim (cases_lt x.offset m) [
  | inl lt ↦ subst (Before m) (sym (until-here m x xs lt)) (lt, until-before m xs)
  | inr late ↦ subst (Before m) (sym (until-stop m x xs late)) tt
]

-- where what lies from a moment on is the end of a list, the rest of it lies before the moment
pub until-is : (m : ℕ) (all front back : List DumpItem) → all ≡ front ++ back → from m all ≡ back → until m all ≡ front
until-is m all front back parts rest =
    append_cancel_right (until m all) front back (ap (λ (xs : List DumpItem). until m all ++ xs) (sym rest) ∙ until-from m all ∙ parts)

from-own : (m : ℕ) (xs ys : List DumpItem) → from m (xs ++ ys) ≡ xs ++ ys → from m xs ≡ xs
from-own m [] ys e = refl
from-own m (x ∷ xs) ys e = elim (cases_lt x.offset m) [
  | inl lt ↦
      let shorter = length-from m (xs ++ ys) in
      let same = ap (λ (zs : List DumpItem). length zs) (sym (from-here m x (xs ++ ys) lt) ∙ e) in
      absurd (omega arith)
  | inr late ↦ from-stop m x xs late
]

-- and so it is where less follows
pub from-cut : (m : ℕ) (front mid back : List DumpItem) → from m (front ++ (mid ++ back)) ≡ mid ++ back → from m (front ++ mid) ≡ mid
from-cut m front mid back e =
    let all = front ++ (mid ++ back) in
    let early : Before m front = subst (Before m) (until-is m all front (mid ++ back) refl e) (until-before m all) in
    from-front m front mid early ∙ from-own m mid back (sym (from-front m front (mid ++ back) early) ∙ e)
