-- What is wanted of a feed: when, for whom, and each once.
use Rattle.std.proofs.Common.{suc, ◌≡◌, ℕ, ◌+◌, ◌<◌, inl, inr, Bool, true, not, List, [], ◌∷◌, length, map, refl, sym, ◌∙◌, ap, subst, arith, Decides}
use Rattle.std.specs.Prelude.{◌==◌}
use Rattle.std.specs.List.{filter}
use Rattle.std.proofs.lemmas.Bool.{cases_Bool, not_from_false, not_from_true, both_ways}
use Rattle.std.proofs.lemmas.Bool.Decides.{Decides-and, Decides-eqb, Decides-like}
use Rattle.conference_spec.specs.declared.Entry.TheVariants.{Join, Leave, Close, Collect, Cut, End}
use Rattle.conference_spec.specs.declared.Task.{Task}
use Rattle.conference_spec.specs.Coding.{Coder, Tells}
use Rattle.conference_spec.specs.Feed.{Feed, Listener, listeners, hears, begins, closes}
use Rattle.conference_spec.specs.Tasks.{task_of, tasks_of, is_same_task, each_once, wanted, tasks}
use Rattle.conference_spec.proofs.Members.{In, Once, in-append_left, in-append_right, in-append_cases, in-map, in-map_cases, in-filter, in-filter_parts, once-filter, once-append}

-- two tasks are one where tick and triple are
pub same-decides : (coder : Coder) → Tells coder → (a b : Task) → Decides (is_same_task coder a b) (a ≡ b)
same-decides coder tells a b =
    Decides-like (is_same_task coder a b)
    (λ p. λ i. record { tick = p.0 i; triple = p.1 i })
    (λ e. (ap (λ x. x.tick) e, ap (λ x. x.triple) e))
    (Decides-and (a.tick == b.tick) (coder.is_same a.triple b.triple) (Decides-eqb a.tick b.tick)
    (let t = tells a.triple b.triple in (t.0, t.1)))

pub in-once : (coder : Coder) → Tells coder → (x : Task) (xs : List Task) → In x xs → In x (each_once coder xs)
in-once coder tells x [] h = h
in-once coder tells x (y ∷ xs) (inl e) = inl e
in-once coder tells x (y ∷ xs) (inr h) =
    elim (cases_Bool (is_same_task coder y x)) [
      | inl t ↦ inl ((same-decides coder tells y x).0 t)
      | inr t ↦ inr (in-filter (λ z. not (is_same_task coder y z)) x (each_once coder xs) (in-once coder tells x xs h) (not_from_false (is_same_task coder y x) t))
    ]

pub once-in : (coder : Coder) (x : Task) (xs : List Task) → In x (each_once coder xs) → In x xs
once-in coder x [] h = h
once-in coder x (y ∷ xs) (inl e) = inl e
once-in coder x (y ∷ xs) (inr h) = inr (once-in coder x xs (in-filter_parts (λ z. not (is_same_task coder y z)) x (each_once coder xs) h).0)

pub each-once : (coder : Coder) → Tells coder → (xs : List Task) → Once (each_once coder xs)
each-once coder tells [] = tt
each-once coder tells (y ∷ xs) =
    let p = λ (z : Task). not (is_same_task coder y z) in (
      (λ h. both_ways (p y) (not_from_true (is_same_task coder y y) ((same-decides coder tells y y).1 refl)) (in-filter_parts p y (each_once coder xs) h).1),
      once-filter p (each_once coder xs) (each-once coder tells xs),
    )

-- who wants a task at a tick
pub wants-at : (coder : Coder) (k : ℕ) (tick : _) (p : Listener → Bool) (ls : List Listener) (x : Task) → In x (each_once coder (map (task_of coder k tick) (filter p ls)))
    → (l : Listener) × In l ls × (p l ≡ true) × (task_of coder k tick l ≡ x)
wants-at coder k tick p ls x h =
    let m = in-map_cases (task_of coder k tick) x (filter p ls) (once-in coder x (map (task_of coder k tick) (filter p ls)) h) in
    let f = in-filter_parts p m.0 ls m.1 in
    (m.0, f.0, f.1, m.2)

pub at-wanted : (coder : Coder) → Tells coder → (k : ℕ) (tick : _) (p : Listener → Bool) (ls : List Listener) (l : Listener) → In l ls → p l ≡ true
    → In (task_of coder k tick l) (each_once coder (map (task_of coder k tick) (filter p ls)))
at-wanted coder tells k tick p ls l h t =
    in-once coder tells (task_of coder k tick l) (map (task_of coder k tick) (filter p ls)) (in-map (task_of coder k tick) l (filter p ls) (in-filter p l ls h t))

-- what is wanted lies at a closed tick
pub wanted-tick : (coder : Coder) (p : Listener → Bool) (h : Feed) (x : Task) → In x (wanted coder p h) → x.tick < closes h
wanted-tick coder p [] x w = absurd w
wanted-tick coder p (Close tick ∷ h) x w =
    elim (in-append_cases x (wanted coder p h) (each_once coder (map (task_of coder (closes h) tick) (filter p (listeners coder h)))) w) [
      | inl a ↦ let below = wanted-tick coder p h x a in omega arith
      | inr b ↦ let at = wants-at coder (closes h) tick p (listeners coder h) x b in let e : closes h ≡ x.tick = ap (λ y. y.tick) at.3 in omega arith
    ]
wanted-tick coder p (Join spec ∷ h) x w = wanted-tick coder p h x w
wanted-tick coder p (Leave m ∷ h) x w = wanted-tick coder p h x w
wanted-tick coder p (Collect ∷ h) x w = wanted-tick coder p h x w
wanted-tick coder p (End ∷ h) x w = wanted-tick coder p h x w
wanted-tick coder p (Cut ∷ h) x w = wanted-tick coder p h x w

pub wanted-once : (coder : Coder) → Tells coder → (p : Listener → Bool) (h : Feed) → Once (wanted coder p h)
wanted-once coder tells p [] = tt
wanted-once coder tells p (Close tick ∷ h) =
    let here = each_once coder (map (task_of coder (closes h) tick) (filter p (listeners coder h))) in
    once-append (wanted coder p h) here (wanted-once coder tells p h) (each-once coder tells (map (task_of coder (closes h) tick) (filter p (listeners coder h))))
    (λ x a b.
    let below = wanted-tick coder p h x a in
    let at = wants-at coder (closes h) tick p (listeners coder h) x b in
    let e : closes h ≡ x.tick = ap (λ y. y.tick) at.3 in
    omega arith)
wanted-once coder tells p (Join spec ∷ h) = wanted-once coder tells p h
wanted-once coder tells p (Leave m ∷ h) = wanted-once coder tells p h
wanted-once coder tells p (Collect ∷ h) = wanted-once coder tells p h
wanted-once coder tells p (End ∷ h) = wanted-once coder tells p h
wanted-once coder tells p (Cut ∷ h) = wanted-once coder tells p h

-- a present listener has heard each tick since it came
pub heard-ticks : (coder : Coder) (h : Feed) (l : Listener) → In l (listeners coder h) → l.from + length l.heard ≡ closes h
heard-ticks coder [] l i = absurd i
heard-ticks coder (Join spec ∷ h) l i =
    elim (in-append_cases l (listeners coder h) (begins coder spec (closes h) ∷ []) i) [
      | inl a ↦ heard-ticks coder h l a
      | inr b ↦ elim b [ inl e ↦ (let at : closes h ≡ l.from = ap (λ m. m.from) e in let none : 0 ≡ length l.heard = ap (λ m. length m.heard) e in omega arith) | inr z ↦ absurd z ]
    ]
heard-ticks coder (Leave m ∷ h) l i = heard-ticks coder h l (in-filter_parts (λ l. not (l.spec.member == m)) l (listeners coder h) i).0
heard-ticks coder (Close tick ∷ h) l i =
    let m = in-map_cases (hears tick) l (listeners coder h) i in
    let ih = heard-ticks coder h m.0 m.1 in
    let at : m.0.from ≡ l.from = ap (λ n. n.from) m.2 in
    let long : suc (length m.0.heard) ≡ length l.heard = ap (λ n. length n.heard) m.2 in
    omega arith
heard-ticks coder (Collect ∷ h) l i = heard-ticks coder h l i
heard-ticks coder (End ∷ h) l i = heard-ticks coder h l i
heard-ticks coder (Cut ∷ h) l i = heard-ticks coder h l i

-- a present listener's own tasks are among those of the feed
pub own-wanted : (coder : Coder) → Tells coder → (h : Feed) (l : Listener) → In l (listeners coder h) → (x : Task) → In x (tasks_of coder l) → In x (tasks coder h)
own-wanted coder tells [] l i x t = absurd i
own-wanted coder tells (Join spec ∷ h) l i x t =
    elim (in-append_cases l (listeners coder h) (begins coder spec (closes h) ∷ []) i) [
      | inl a ↦ own-wanted coder tells h l a x t
      | inr b ↦ elim b [ inl e ↦ absurd (let P : Listener → Type 0 = λ m. In x (tasks_of coder m) in subst P (sym e) t) | inr z ↦ absurd z ]
    ]
own-wanted coder tells (Leave m ∷ h) l i x t = own-wanted coder tells h l (in-filter_parts (λ l. not (l.spec.member == m)) l (listeners coder h) i).0 x t
own-wanted coder tells (Close tick ∷ h) l i x t =
    let all = λ (l : Listener). true in
    let m = in-map_cases (hears tick) l (listeners coder h) i in
    let P : Listener → Type 0 = λ m. In x (tasks_of coder m) in
    let here = each_once coder (map (task_of coder (closes h) tick) (filter all (listeners coder h))) in
    let own = subst P (sym m.2) t in
    elim own [
      | inl e ↦
          in-append_right x (wanted coder all h) here
          (let Q : Task → Type 0 = λ y. In y here in
          let at : task_of coder (closes h) tick m.0 ≡ x = (λ j. record { tick = sym (heard-ticks coder h m.0 m.1) j; triple = (task_of coder (closes h) tick m.0).triple }) ∙ e in
          subst Q at (at-wanted coder tells (closes h) tick all (listeners coder h) m.0 m.1 refl))
      | inr k ↦ in-append_left x (wanted coder all h) here (own-wanted coder tells h m.0 m.1 x k)
    ]
own-wanted coder tells (Collect ∷ h) l i x t = own-wanted coder tells h l i x t
own-wanted coder tells (End ∷ h) l i x t = own-wanted coder tells h l i x t
own-wanted coder tells (Cut ∷ h) l i x t = own-wanted coder tells h l i x t

-- where a test implies another, for those whose own tasks are among the feed's, less is wanted for the one than for the other
pub wanted-more : (coder : Coder) → Tells coder → (p q : Listener → Bool) (h : Feed)
    → ((l : Listener) → ((y : Task) → In y (tasks_of coder l) → In y (tasks coder h)) → p l ≡ true → q l ≡ true)
    → (x : Task) → In x (wanted coder p h) → In x (wanted coder q h)
wanted-more coder tells p q [] imp x w = w
wanted-more coder tells p q (Close tick ∷ h) imp x w =
    let all = λ (l : Listener). true in
    let at = λ (r : Listener → Bool). each_once coder (map (task_of coder (closes h) tick) (filter r (listeners coder h))) in
    elim (in-append_cases x (wanted coder p h) (at p) w) [
      | inl a ↦ in-append_left x (wanted coder q h) (at q)
          (wanted-more coder tells p q h (λ l own t. imp l (λ y i. in-append_left y (tasks coder h) (at all) (own y i)) t) x a)
      | inr b ↦
          let who = wants-at coder (closes h) tick p (listeners coder h) x b in
          let passes = imp who.0 (λ y i. in-append_left y (tasks coder h) (at all) (own-wanted coder tells h who.0 who.1 y i)) who.2 in
          let Q : Task → Type 0 = λ y. In y (at q) in
          in-append_right x (wanted coder q h) (at q) (subst Q who.3 (at-wanted coder tells (closes h) tick q (listeners coder h) who.0 who.1 passes))
    ]
wanted-more coder tells p q (Join spec ∷ h) imp x w = wanted-more coder tells p q h imp x w
wanted-more coder tells p q (Leave m ∷ h) imp x w = wanted-more coder tells p q h imp x w
wanted-more coder tells p q (Collect ∷ h) imp x w = wanted-more coder tells p q h imp x w
wanted-more coder tells p q (End ∷ h) imp x w = wanted-more coder tells p q h imp x w
wanted-more coder tells p q (Cut ∷ h) imp x w = wanted-more coder tells p q h imp x w

pub wanted-tasks : (coder : Coder) → Tells coder → (p : Listener → Bool) (h : Feed) (x : Task) → In x (wanted coder p h) → In x (tasks coder h)
wanted-tasks coder tells p h x w = wanted-more coder tells p (λ l. true) h (λ l own t. refl) x w
