-- The different mixes of a tick: each once, and at most one more than there are talkers.
use Rattle.std.proofs.Common.{◌≡◌, ◌≢◌, ◌⊎◌, ℕ, ◌+◌, ◌<◌, ◌≤◌, ◌||◌, ◌==◌, not, Bool, true, false, cond, List, [], ◌∷◌, ◌++◌, map, filter, find}
use Rattle.std.proofs.Common.{length, Option, Some, None, refl, sym, ap, subst, ◌∙◌, inl, inr, arith, length-append}
use Rattle.std.specs.List.{list_any, AllByRecursion, range_with_len}
use Rattle.std.proofs.lemmas.Bool.{false≢true, eqb-true, or_parts}
use Rattle.std.proofs.lemmas.List.{length-map}
use Rattle.g726_bits.specs.declared.Frame.{Frame}
use Rattle.talk_mix.specs.Voices.{Voice}
use Rattle.talk_mix.specs.Mix.{mix, others, limited, sum_at}
use Rattle.conference_spec.proofs.Equal.{frame-decides}
use Rattle.enc_group.specs.declared.Seat.{Seat}
use Rattle.enc_group.specs.Groups.{sits}
use Rattle.enc_group.specs.Mixes.{is_same, heard, mixes_at, each_once}
use Rattle.enc_group.proofs.Passing.{bool-cases, or-left, or-right, or-rest, all-of, any-last}

pub same-is : (a b : Frame) → is_same a b ≡ true → a ≡ b
same-is a b e = (frame-decides a b).0 e

pub same-refl : (a : Frame) → is_same a a ≡ true
same-refl a = (frame-decides a a).1 refl

pub same-turned : (a b : Frame) → is_same a b ≡ true → is_same b a ≡ true
same-turned a b e = (frame-decides b a).1 (sym (same-is a b e))

pub differ-turned : (a b : Frame) → is_same a b ≡ false → is_same b a ≡ false
differ-turned a b e =
    elim (bool-cases (is_same b a)) [
      | inl t ↦ absurd (false≢true (sym e ∙ same-turned b a t))
      | inr f ↦ f
    ]

-- a filter, at its first element
pub filter-yes : {X : Type 0} (p : X → Bool) (x : X) (xs : List X) → p x ≡ true → filter p (x ∷ xs) ≡ x ∷ filter p xs
filter-yes p x xs t = ap (λ (b : Bool). cond b (x ∷ filter p xs) (filter p xs)) t

pub filter-no : {X : Type 0} (p : X → Bool) (x : X) (xs : List X) → p x ≡ false → filter p (x ∷ xs) ≡ filter p xs
filter-no p x xs f = ap (λ (b : Bool). cond b (x ∷ filter p xs) (filter p xs)) f

filter-turned : {X : Type 0} (p q : X → Bool) (xs : List X) → filter p (filter q xs) ≡ filter q (filter p xs)
filter-turned p q [] = refl
filter-turned p q (x ∷ xs) =
    let later = filter-turned p q xs in
    elim (bool-cases (p x)) [
      | inl t ↦ elim (bool-cases (q x)) [
        | inl u ↦ ap (filter p) (filter-yes q x xs u) ∙ filter-yes p x (filter q xs) t ∙ ap (λ z. x ∷ z) later ∙ sym (ap (filter q) (filter-yes p x xs t) ∙ filter-yes q x (filter p xs) u)
        | inr v ↦ ap (filter p) (filter-no q x xs v) ∙ later ∙ sym (ap (filter q) (filter-yes p x xs t) ∙ filter-no q x (filter p xs) v)
      ]
      | inr f ↦ elim (bool-cases (q x)) [
        | inl u ↦ ap (filter p) (filter-yes q x xs u) ∙ filter-no p x (filter q xs) f ∙ later ∙ sym (ap (filter q) (filter-no p x xs f))
        | inr v ↦ ap (filter p) (filter-no q x xs v) ∙ later ∙ sym (ap (filter q) (filter-no p x xs f))
      ]
    ]

filter-twice : {X : Type 0} (p : X → Bool) (xs : List X) → filter p (filter p xs) ≡ filter p xs
filter-twice p [] = refl
filter-twice p (x ∷ xs) =
    elim (bool-cases (p x)) [
      | inl t ↦ ap (filter p) (filter-yes p x xs t) ∙ filter-yes p x (filter p xs) t ∙ ap (λ z. x ∷ z) (filter-twice p xs) ∙ sym (filter-yes p x xs t)
      | inr f ↦ ap (filter p) (filter-no p x xs f) ∙ filter-twice p xs ∙ sym (filter-no p x xs f)
    ]

-- of what one filter keeps another leaves out no more than of all
left-out : {X : Type 0} (q r : X → Bool) (xs : List X) → length (filter r xs) + length (filter q xs) ≤ length (filter q (filter r xs)) + length xs
left-out q r [] = omega arith
left-out q r (x ∷ xs) =
    let later = left-out q r xs in
    elim (bool-cases (r x)) [
      | inl t ↦ elim (bool-cases (q x)) [
        | inl u ↦
            (let a = ap length (filter-yes r x xs t) in
            let b = ap length (filter-yes q x xs u) in
            let d = ap length (ap (filter q) (filter-yes r x xs t) ∙ filter-yes q x (filter r xs) u) in
            omega (arith, later, a, b, d))
        | inr v ↦
            (let a = ap length (filter-yes r x xs t) in
            let b = ap length (filter-no q x xs v) in
            let d = ap length (ap (filter q) (filter-yes r x xs t) ∙ filter-no q x (filter r xs) v) in
            omega (arith, later, a, b, d))
      ]
      | inr f ↦ elim (bool-cases (q x)) [
        | inl u ↦
            (let a = ap length (filter-no r x xs f) in
            let b = ap length (filter-yes q x xs u) in
            let d = ap length (ap (filter q) (filter-no r x xs f)) in
            omega (arith, later, a, b, d))
        | inr v ↦
            (let a = ap length (filter-no r x xs f) in
            let b = ap length (filter-no q x xs v) in
            let d = ap length (ap (filter q) (filter-no r x xs f)) in
            omega (arith, later, a, b, d))
      ]
    ]

abbrev pub isnt : Frame → Frame → Bool
isnt a b = not (is_same a b)

-- a frame stands at most once
at-most-once : (b : Frame) (fs : List Frame) → length (each_once fs) ≤ length (filter (isnt b) (each_once fs)) + 1
at-most-once b [] = omega arith
at-most-once b (f ∷ fs) =
    let rest = each_once fs in
    elim (bool-cases (is_same b f)) [
      | inl t ↦
          (let P : Frame → Type 0 = λ z. length (z ∷ filter (isnt z) rest) ≤ length (filter (isnt b) (z ∷ filter (isnt z) rest)) + 1 in
          let e = ap length (filter-no (isnt b) b (filter (isnt b) rest) (ap not (same-refl b)) ∙ filter-twice (isnt b) rest) in
          let here : P b = omega (arith, e) in
          subst P (same-is b f t) here)
      | inr n ↦
          (let e = ap length (filter-yes (isnt b) f (filter (isnt f) rest) (ap not n)) in
          let less = left-out (isnt b) (isnt f) rest in
          let later = at-most-once b fs in
          omega (arith, e, less, later))
    ]

-- filters and this go together
pub each_once-filter : (q : Frame → Bool) (fs : List Frame) → each_once (filter q fs) ≡ filter q (each_once fs)
each_once-filter q [] = refl
each_once-filter q (f ∷ fs) =
    let later = each_once-filter q fs in
    elim (bool-cases (q f)) [
      | inl t ↦
          ap each_once (filter-yes q f fs t) ∙ ap (λ z. f ∷ filter (isnt f) z) later ∙ ap (λ z. f ∷ z) (filter-turned (isnt f) q (each_once fs))
          ∙ sym (filter-yes q f (filter (isnt f) (each_once fs)) t)
      | inr n ↦
          ap each_once (filter-no q f fs n) ∙ later ∙ sym (filter-no q f (filter (isnt f) (each_once fs)) n ∙ out (each_once fs) n)
    ]
  where
    out : (gs : List Frame) → q f ≡ false → filter q (filter (isnt f) gs) ≡ filter q gs
    out [] n = refl
    out (g ∷ gs) n =
        elim (bool-cases (is_same f g)) [
          | inl t ↦ ap (filter q) (filter-no (isnt f) g gs (ap not t)) ∙ out gs n ∙ sym (filter-no q g gs (ap q (sym (same-is f g t)) ∙ n))
          | inr d ↦
              elim (bool-cases (q g)) [
                | inl u ↦ ap (filter q) (filter-yes (isnt f) g gs (ap not d)) ∙ filter-yes q g (filter (isnt f) gs) u ∙ ap (λ z. g ∷ z) (out gs n) ∙ sym (filter-yes q g gs u)
                | inr v ↦ ap (filter q) (filter-yes (isnt f) g gs (ap not d)) ∙ filter-no q g (filter (isnt f) gs) v ∙ out gs n ∙ sym (filter-no q g gs v)
              ]
        ]

-- frames that are all among some others are at most as many, each counted once
pub among-few : (bs fs : List Frame) → AllByRecursion (λ f. list_any (λ b. is_same b f) bs ≡ true) fs → length (each_once fs) ≤ length bs
among-few bs [] a = omega arith
among-few [] (f ∷ fs) a = absurd (false≢true a.0)
among-few (b ∷ bs) (f ∷ fs) a =
    let all = f ∷ fs in
    let e = ap length (each_once-filter (isnt b) all) in
    let later = among-few bs (filter (isnt b) all) (less all a) in
    let one = at-most-once b all in
    omega (arith, e, later, one)
  where
    less : (gs : List Frame) → AllByRecursion (λ f. list_any (λ b. is_same b f) (b ∷ bs) ≡ true) gs → AllByRecursion (λ f. list_any (λ b. is_same b f) bs ≡ true) (filter (isnt b) gs)
    less [] a = tt
    less (g ∷ gs) a =
        let P : List Frame → Type 0 = AllByRecursion (λ f. list_any (λ b. is_same b f) bs ≡ true) in
        elim (bool-cases (is_same b g)) [
          | inl t ↦ subst P (sym (filter-no (isnt b) g gs (ap not t))) (less gs a.1)
          | inr n ↦ subst P (sym (filter-yes (isnt b) g gs (ap not n))) (or-rest (is_same b g) (list_any (λ b. is_same b g) bs) n a.0, less gs a.1)
        ]

-- what one hears who doesn't talk
abbrev mixed : List Voice → Frame
mixed tick = map (λ place. limited (sum_at tick place)) (range_with_len 0 160)

all-others : (l : ℕ) (voices : List Voice) → list_any (λ v. v.0 == l) voices ≡ false → others l voices ≡ voices
all-others l [] e = refl
all-others l (v ∷ vs) e =
    let parts = or_parts (v.0 == l) (list_any (λ v. v.0 == l) vs) e in
    filter-yes (λ v. not (v.0 == l)) v vs (ap not parts.0) ∙ ap (λ z. v ∷ z) (all-others l vs parts.1)

listens : (l : ℕ) (tick : List Voice) → list_any (λ v. v.0 == l) tick ≡ false → mix l tick ≡ mixed tick
unfolding mix
listens l tick e = ap mixed (all-others l tick e)

-- what talkers hear, and what all others hear
abbrev to_hear : List Voice → List Frame
to_hear tick = map (λ v. mix v.0 tick) tick ++ mixed tick ∷ []

talks : (l : ℕ) (tick voices : List Voice) → list_any (λ v. v.0 == l) voices ≡ true → list_any (λ b. is_same b (mix l tick)) (map (λ v. mix v.0 tick) voices ++ mixed tick ∷ []) ≡ true
talks l tick [] e = absurd (false≢true e)
talks l tick (v ∷ vs) e =
    let rest = list_any (λ b. is_same b (mix l tick)) (map (λ v. mix v.0 tick) vs ++ mixed tick ∷ []) in
    elim (bool-cases (v.0 == l)) [
      | inl t ↦ or-left (is_same (mix v.0 tick) (mix l tick)) rest (ap (λ z. is_same (mix z tick) (mix l tick)) (eqb-true v.0 l t) ∙ same-refl (mix l tick))
      | inr f ↦ or-right (is_same (mix v.0 tick) (mix l tick)) rest (talks l tick vs (or-rest (v.0 == l) (list_any (λ v. v.0 == l) vs) f e))
    ]

heard-among : (tick : List Voice) (s : Seat) → list_any (λ b. is_same b (heard tick s)) (to_hear tick) ≡ true
heard-among tick s =
    elim (bool-cases (list_any (λ v. v.0 == s.listener) tick)) [
      | inl t ↦ talks s.listener tick tick t
      | inr f ↦ any-last (λ b. is_same b (heard tick s)) (map (λ v. mix v.0 tick) tick) (mixed tick) (ap (is_same (mixed tick)) (listens s.listener tick f) ∙ same-refl (mixed tick))
    ]

mixes-among : (key : ℕ) (tick : List Voice) (seats : List Seat) → AllByRecursion (λ f. list_any (λ b. is_same b f) (to_hear tick) ≡ true) (mixes_at key tick seats)
mixes-among key tick seats = hear (filter (sits key) seats)
  where
    hear : (ss : List Seat) → AllByRecursion (λ f. list_any (λ b. is_same b f) (to_hear tick) ≡ true) (map (heard tick) ss)
    hear [] = tt
    hear (s ∷ ss) = (heard-among tick s, hear ss)

-- a group has at most one part more than the tick has talkers
pub few-parts : (key : ℕ) (tick : List Voice) (seats : List Seat) → length (each_once (mixes_at key tick seats)) ≤ length tick + 1
few-parts key tick seats =
    let few = among-few (to_hear tick) (mixes_at key tick seats) (mixes-among key tick seats) in
    let a = length-append (map (λ (v : Voice). mix v.0 tick) tick) (mixed tick ∷ []) in
    let b = length-map tick (λ (v : Voice). mix v.0 tick) in
    omega (arith, few, a, b)
