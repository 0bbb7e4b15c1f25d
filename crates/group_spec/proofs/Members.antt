-- Lists that have each thing once, and guests with different numbers.
use Rattle.std.proofs.Common.{◌≡◌, ℕ, ◌+◌, ◌<◌, inl, inr, Bool, true, false, not, ◌&&◌, cond, List, [], ◌∷◌, length, map, refl, sym, ◌∙◌, ap, subst, arith, Option, Some, None}
use Rattle.std.specs.Prelude.{◌==◌, nat_lt, is_none, AllPairs}
use Rattle.std.specs.List.{list_any, filter_map, cons_option, count_by, AllByRecursion}
use Rattle.std.proofs.lemmas.Bool.{cond_both, cond-true, cond-false, eq-eqb, and_parts, both_ways}
use Rattle.std.proofs.lemmas.List.{map-append}
use Rattle.std.proofs.lemmas.List.Sums.{sum_by-cons}
use Rattle.std.proofs.lemmas.List.Kept.{AllPairs-cons}
use Rattle.std.proofs.lemmas.List.Elements.{All-from_recursion}
use Rattle.talk_mix.specs.declared.ticks.Tick.{Tick}
use Rattle.conference_spec.specs.declared.Entry.TheVariants.{Join, Leave, Close, Collect, Cut, End}
use Rattle.conference_spec.specs.Coding.{Coder}
use Rattle.conference_spec.specs.Feed.{Feed, Guest, guests, goes, stays, hears, begins, closes, joined, ended, is_legal, may_follow, listeners}
use Rattle.conference_spec.specs.Members.{In, Once}
use Rattle.conference_spec.proofs.Members.{in-append_cases, in-map, in-any, once-append}

-- ---- lists ----

pub cons-later : {Y : Type 0} (o : Option Y) (y : Y) (ys : List Y) → In y ys → In y (cons_option o ys)
cons-later None y ys i = i
cons-later (Some z) y ys i = inr i

pub kept-in : {X Y : Type 0} (f : X → Option Y) (x : X) (y : Y) (xs : List X) → In x xs → f x ≡ Some y → In y (filter_map f xs)
kept-in f x y [] i e = absurd i
kept-in {X} {Y} f x y (z ∷ xs) (inl q) e =
    let P : Option Y → Type 0 = λ o. In y (cons_option o (filter_map f xs)) in
    subst P (sym (ap f q ∙ e)) (inl refl)
kept-in f x y (z ∷ xs) (inr i) e = cons-later (f z) y (filter_map f xs) (kept-in f x y xs i e)

pub in-kept : {X Y : Type 0} (f : X → Option Y) (y : Y) (xs : List X) → In y (filter_map f xs) → (x : X) × In x xs × (f x ≡ Some y)
in-kept f y [] i = absurd i
in-kept {X} {Y} f y (z ∷ xs) i =
    let rest : In y (filter_map f xs) → (x : X) × In x (z ∷ xs) × (f x ≡ Some y) = λ j. let r = in-kept f y xs j in (r.0, inr r.1, r.2) in
    let at : (o : Option Y) → f z ≡ o → In y (cons_option o (filter_map f xs)) → (x : X) × In x (z ∷ xs) × (f x ≡ Some y) = elim [
      | None ↦ λ e j. rest j
      | Some w ↦ λ e. elim [
        | inl q ↦ (z, inl refl, e ∙ ap Some q)
        | inr j ↦ rest j
      ]
    ] in
    at (f z) refl i

-- where no two have the same image, one with this image is the one
pub one-of : {X Y : Type 0} (f : X → Y) (xs : List X) → Once (map f xs) → (x y : X) → In x xs → In y xs → f x ≡ f y → x ≡ y
one-of f [] o x y i j e = absurd i
one-of f (z ∷ xs) o x y (inl a) (inl b) e = sym a ∙ b
one-of {X} {Y} f (z ∷ xs) o x y (inl a) (inr j) e =
    let P : Y → Type 0 = λ w. In w (map f xs) in
    absurd (o.0 (subst P (sym (ap f a ∙ e)) (in-map f y xs j)))
one-of {X} {Y} f (z ∷ xs) o x y (inr i) (inl b) e =
    let P : Y → Type 0 = λ w. In w (map f xs) in
    absurd (o.0 (subst P (e ∙ sym (ap f b)) (in-map f x xs i)))
one-of f (z ∷ xs) o x y (inr i) (inr j) e = one-of f xs o.1 x y i j e

pub count-none : {X Y : Type 0} (p : Y → Bool) (f : X → Y) (xs : List X) → ((x : X) → In x xs → p (f x) ≡ false) → count_by p (map f xs) ≡ 0
count-none p f [] none = refl
count-none p f (x ∷ xs) none =
    let step = sum_by-cons (λ y. cond (p y) 1 0) (f x) (map f xs) in
    let here = cond-false (p (f x)) 1 0 (none x (inl refl)) in
    let rest = count-none p f xs (λ y i. none y (inr i)) in
    step ∙ ap (λ n. n + count_by p (map f xs)) here ∙ ap (λ n. 0 + n) rest

-- of things that stand once each, just one passes
pub count-one : {X Y : Type 0} (p : Y → Bool) (f : X → Y) (x : X) (xs : List X) → Once xs → In x xs → p (f x) ≡ true
    → ((y : X) → In y xs → (y ≡ x → ⊥) → p (f y) ≡ false) → count_by p (map f xs) ≡ 1
count-one p f x [] once i t others = absurd i
count-one {X} p f x (z ∷ xs) once (inl e) t others =
    let step = sum_by-cons (λ y. cond (p y) 1 0) (f z) (map f xs) in
    let here = cond-true (p (f z)) 1 0 (ap (λ y. p (f y)) e ∙ t) in
    let P : X → Type 0 = λ w. In w xs in
    let rest = count-none p f xs (λ y i. others y (inr i) (λ q. once.0 (subst P (q ∙ sym e) i))) in
    step ∙ ap (λ n. n + count_by p (map f xs)) here ∙ ap (λ n. 1 + n) rest
count-one {X} p f x (z ∷ xs) once (inr i) t others =
    let step = sum_by-cons (λ y. cond (p y) 1 0) (f z) (map f xs) in
    let P : X → Type 0 = λ w. In w xs in
    let here = cond-false (p (f z)) 1 0 (others z (inl refl) (λ q. once.0 (subst P (sym q) i))) in
    let rest = count-one p f x xs once.1 i t (λ y j n. others y (inr j) n) in
    step ∙ ap (λ n. n + count_by p (map f xs)) here ∙ ap (λ n. 0 + n) rest

pub each-map : {X Y : Type 0} (P : Y → Type 0) (f : X → Y) (xs : List X) → ((x : X) → In x xs → P (f x)) → AllByRecursion P (map f xs)
each-map P f [] all = tt
each-map P f (x ∷ xs) all = (all x (inl refl), each-map P f xs (λ y i. all y (inr i)))

-- what holds of any two different things holds of all pairs
pub pairs-map : {X Y : Type 0} (R : Y → Y → Type 0) (f : X → Y) (xs : List X) → Once xs
    → ((x y : X) → In x xs → In y xs → (x ≡ y → ⊥) → R (f x) (f y)) → AllPairs R (map f xs)
pairs-map R f [] once all = λ i j d lt le. absurd (omega arith)
pairs-map {X} R f (x ∷ xs) once all =
    let P : X → Type 0 = λ w. In w xs in
    AllPairs-cons R (f x) (map f xs)
    (All-from_recursion (R (f x)) (map f xs) (each-map (R (f x)) f xs (λ y i. all x y (inl refl) (inr i) (λ e. once.0 (subst P (sym e) i)))))
    (pairs-map R f xs once.1 (λ y z i j n. all y z (inr i) (inr j) n))

pub in-longer : {X : Type 0} (x : X) (xs : List X) → In x xs → 0 < length xs
in-longer x [] i = absurd i
in-longer x (y ∷ xs) i = omega arith

-- ---- guests ----

abbrev pub member_of : Guest → ℕ
member_of g = g.listener.spec.member

members-goes : (m k : ℕ) (gs : List Guest) → map member_of (map (goes m k) gs) ≡ map member_of gs
members-goes m k [] = refl
members-goes m k (g ∷ gs) =
    let P : Guest → Type 0 = λ x. member_of x ∷ map member_of (map (goes m k) gs) ≡ member_of g ∷ map member_of gs in
    let ih = ap (λ ms. member_of g ∷ ms) (members-goes m k gs) in
    cond_both (is_none g.left && (g.listener.spec.member == m)) (record { listener = g.listener; left = Some k }) g P (λ t. ih) (λ t. ih)

members-stays : (tick : Tick) (gs : List Guest) → map member_of (map (stays tick) gs) ≡ map member_of gs
members-stays tick [] = refl
members-stays tick (g ∷ gs) =
    let P : Guest → Type 0 = λ x. member_of x ∷ map member_of (map (stays tick) gs) ≡ member_of g ∷ map member_of gs in
    let ih = ap (λ ms. member_of g ∷ ms) (members-stays tick gs) in
    cond_both (is_none g.left) (record { listener = hears tick g.listener; left = None }) g P (λ t. ih) (λ t. ih)

members-joined : (coder : Coder) (h : Feed) (m : ℕ) → In m (map member_of (guests coder h)) → In m (joined h)
members-joined coder [] m i = i
members-joined coder (Join spec ∷ h) m i =
    let new : Guest = record { listener = begins coder spec (closes h); left = None } in
    let P : List ℕ → Type 0 = λ ms. In m ms in
    elim (in-append_cases m (map member_of (guests coder h)) (spec.member ∷ []) (subst P (map-append member_of (guests coder h) (new ∷ [])) i)) [
      | inl a ↦ inr (members-joined coder h m a)
      | inr b ↦ elim b [ inl e ↦ inl e | inr z ↦ absurd z ]
    ]
members-joined coder (Leave n ∷ h) m i =
    let P : List ℕ → Type 0 = λ ms. In m ms in
    members-joined coder h m (subst P (members-goes n (closes h) (guests coder h)) i)
members-joined coder (Close tick ∷ h) m i =
    let P : List ℕ → Type 0 = λ ms. In m ms in
    members-joined coder h m (subst P (members-stays tick (guests coder h)) i)
members-joined coder (Collect ∷ h) m i = members-joined coder h m i
members-joined coder (Cut ∷ h) m i = members-joined coder h m i
members-joined coder (End ∷ h) m i = members-joined coder h m i

not-false : (b : Bool) → not b ≡ true → b ≡ false
not-false true e = sym e
not-false false e = refl

abbrev AreOnce : List ℕ → Type 0
AreOnce ms = Once ms

pub members-once : (coder : Coder) (h : Feed) → is_legal coder h ≡ true → Once (map member_of (guests coder h))
members-once coder [] l = tt
members-once coder (Join spec ∷ h) l =
    let new : Guest = record { listener = begins coder spec (closes h); left = None } in
    let parts = and_parts (may_follow coder h (Join spec)) (is_legal coder h) l in
    let fresh = and_parts (not (list_any (λ m. m == spec.member) (joined h))) (nat_lt (length (listeners coder h)) 1024 && not (ended h)) parts.0 in
    subst AreOnce (sym (map-append member_of (guests coder h) (new ∷ [])))
    (once-append (map member_of (guests coder h)) (spec.member ∷ []) (members-once coder h parts.1) ((λ i. i), tt)
    (λ m i j. elim j [
      | inl e ↦
          let there : list_any (λ m. m == spec.member) (joined h) ≡ true =
          in-any (λ m. m == spec.member) m (joined h) (members-joined coder h m i) (eq-eqb m spec.member (sym e)) in
          both_ways (list_any (λ m. m == spec.member) (joined h)) (not-false (list_any (λ m. m == spec.member) (joined h)) fresh.0) there
      | inr z ↦ z
    ]))
members-once coder (Leave n ∷ h) l =
    subst AreOnce (sym (members-goes n (closes h) (guests coder h))) (members-once coder h (and_parts (may_follow coder h (Leave n)) (is_legal coder h) l).1)
members-once coder (Close tick ∷ h) l =
    subst AreOnce (sym (members-stays tick (guests coder h))) (members-once coder h (and_parts (may_follow coder h (Close tick)) (is_legal coder h) l).1)
members-once coder (Collect ∷ h) l = members-once coder h (and_parts (may_follow coder h Collect) (is_legal coder h) l).1
members-once coder (Cut ∷ h) l = members-once coder h (and_parts (may_follow coder h Cut) (is_legal coder h) l).1
members-once coder (End ∷ h) l = members-once coder h (and_parts (may_follow coder h End) (is_legal coder h) l).1
