-- Guests and listeners, and the packets of a tick.
use Rattle.std.proofs.Common.{◌≡◌, ℕ, ◌+◌, ◌≤◌, ◌<◌, inl, inr, Bool, true, false, not, ◌&&◌, cond, List, [], ◌∷◌, ◌++◌, length, map, refl, sym, ◌∙◌, ap, subst, arith, Option, Some, None}
use Rattle.std.specs.Prelude.{◌==◌, nat_le, unwrap_or, is_none}
use Rattle.std.specs.List.{filter, flat_map}
use Rattle.std.proofs.lemmas.Bool.{cases_Bool, cond_both, cond-true, cond-false, not_from_false, not_from_true, both_ways, false≢true, and_cases, and_from, and_left, and_right, leb-false}
use Rattle.std.proofs.lemmas.List.{append-nil, map-append}
use Rattle.std.proofs.lemmas.Grind.{flat_map-append}
use Rattle.talk_mix.specs.declared.ticks.Tick.{Tick}
use Rattle.conference_spec.specs.declared.Entry.TheVariants.{Join, Leave, Close, Collect, Cut, End}
use Rattle.conference_spec.specs.Coding.{Coder}
use Rattle.conference_spec.specs.Feed.{Feed, Listener, Guest, is_sent_at, until, guests, goes, stays, listeners, hears, begins, closes}
use Rattle.conference_spec.specs.Packets.{packets_at, sent}
use Rattle.conference_spec.proofs.Members.{In, in-append_cases, in-map_cases}
use Rattle.conference_spec.proofs.Stages.{filter-append'}
use Rattle.conference_spec.proofs.Chunks.{early-at, late-at, hears-at}

-- a guest is as old as it has heard ticks, and no older than the feed
pub record Dated (h : Feed) (g : Guest) : Type 0 where
  pub here : is_none g.left ≡ true → g.listener.from + length g.listener.heard ≡ closes h
  pub gone : is_none g.left ≡ false → unwrap_or g.left 0 ≡ g.listener.from + length g.listener.heard
  pub within : g.listener.from + length g.listener.heard ≤ closes h

pub dated : (coder : Coder) (h : Feed) (g : Guest) → In g (guests coder h) → Dated h g
dated coder [] g i = absurd i
dated coder (Join spec ∷ h) g i =
    elim (in-append_cases g (guests coder h) (record { listener = begins coder spec (closes h); left = None } ∷ []) i) [
      | inl a ↦ let d = dated coder h g a in record { here = d.here; gone = d.gone; within = d.within }
      | inr b ↦ elim b [
        | inl e ↦ subst (Dated (Join spec ∷ h)) e (record { here = λ t. omega arith; gone = λ t. absurd (false≢true (sym t)); within = omega arith })
        | inr z ↦ absurd z
      ]
    ]
dated coder (Leave m ∷ h) g i =
    let s = in-map_cases (goes m (closes h)) g (guests coder h) i in
    let d = dated coder h s.0 s.1 in
    subst (Dated (Leave m ∷ h)) s.2
    (cond_both (is_none s.0.left && (s.0.listener.spec.member == m)) (record { listener = s.0.listener; left = Some (closes h) }) s.0 (Dated (Leave m ∷ h))
    (λ t. record {
      here = λ u. absurd (false≢true u);
      gone = λ u. sym (d.here (let a = t in elim (cases_Bool (is_none s.0.left)) [ inl x ↦ x | inr x ↦ absurd (false≢true (sym (and_left (is_none s.0.left) (s.0.listener.spec.member == m) x) ∙ a)) ]));
      within = d.within;
    })
    (λ t. record { here = d.here; gone = d.gone; within = d.within }))
dated coder (Close tick ∷ h) g i =
    let s = in-map_cases (stays tick) g (guests coder h) i in
    let d = dated coder h s.0 s.1 in
    let le = d.within in
    subst (Dated (Close tick ∷ h)) s.2
    (cond_both (is_none s.0.left) (record { listener = hears tick s.0.listener; left = None }) s.0 (Dated (Close tick ∷ h))
    (λ t. let e = d.here t in record { here = λ u. omega arith; gone = λ u. absurd (false≢true (sym u)); within = omega arith })
    (λ t. record { here = λ u. absurd (both_ways (is_none s.0.left) t u); gone = d.gone; within = omega arith }))
dated coder (Collect ∷ h) g i = let d = dated coder h g i in record { here = d.here; gone = d.gone; within = d.within }
dated coder (End ∷ h) g i = let d = dated coder h g i in record { here = d.here; gone = d.gone; within = d.within }
dated coder (Cut ∷ h) g i = let d = dated coder h g i in record { here = d.here; gone = d.gone; within = d.within }

-- those who are here, as listeners
abbrev pub present : List Guest → List Listener
present gs = map (λ g. g.listener) (filter (λ g. is_none g.left) gs)

abbrev here : Guest → Bool
here g = is_none g.left

pub present-goes : (m k : ℕ) (gs : List Guest) → present (map (goes m k) gs) ≡ filter (λ l. not (l.spec.member == m)) (present gs)
present-goes m k [] = refl
present-goes m k (g ∷ gs) =
    let ih = present-goes m k gs in
    let P = λ (l : Listener). not (l.spec.member == m) in
    let b = g.listener.spec.member == m in
    let went : Guest = record { listener = g.listener; left = Some k } in
    elim (cases_Bool (is_none g.left)) [
      | inl t ↦ elim (cases_Bool b) [
        | inl u ↦
            let e : goes m k g ≡ went = cond-true (is_none g.left && b) went g (and_from (is_none g.left) b t u) in
            ap (λ x. present (x ∷ map (goes m k) gs)) e ∙ ih
            ∙ sym (ap (λ c. filter P (map (λ g. g.listener) (cond c (g ∷ filter here gs) (filter here gs)))) t
            ∙ ap (λ c. cond c (g.listener ∷ filter P (present gs)) (filter P (present gs))) (not_from_true b u))
        | inr u ↦
            let e : goes m k g ≡ g = cond-false (is_none g.left && b) went g (and_right (is_none g.left) b u) in
            ap (λ x. present (x ∷ map (goes m k) gs)) e
            ∙ ap (λ c. map (λ g. g.listener) (cond c (g ∷ filter here (map (goes m k) gs)) (filter here (map (goes m k) gs)))) t
            ∙ ap (λ ls. g.listener ∷ ls) ih
            ∙ sym (ap (λ c. filter P (map (λ g. g.listener) (cond c (g ∷ filter here gs) (filter here gs)))) t
            ∙ ap (λ c. cond c (g.listener ∷ filter P (present gs)) (filter P (present gs))) (not_from_false b u))
      ]
      | inr t ↦
          let e : goes m k g ≡ g = cond-false (is_none g.left && b) went g (and_left (is_none g.left) b t) in
          ap (λ x. present (x ∷ map (goes m k) gs)) e
          ∙ ap (λ c. map (λ g. g.listener) (cond c (g ∷ filter here (map (goes m k) gs)) (filter here (map (goes m k) gs)))) t
          ∙ ih
          ∙ sym (ap (λ c. filter P (map (λ g. g.listener) (cond c (g ∷ filter here gs) (filter here gs)))) t)
    ]

pub present-stays : (tick : Tick) (gs : List Guest) → present (map (stays tick) gs) ≡ map (hears tick) (present gs)
present-stays tick [] = refl
present-stays tick (g ∷ gs) =
    let ih = present-stays tick gs in
    let stayed : Guest = record { listener = hears tick g.listener; left = None } in
    elim (cases_Bool (is_none g.left)) [
      | inl t ↦
          ap (λ x. present (x ∷ map (stays tick) gs)) (cond-true (is_none g.left) stayed g t)
          ∙ ap (λ ls. hears tick g.listener ∷ ls) ih
          ∙ sym (ap (λ c. map (hears tick) (map (λ g. g.listener) (cond c (g ∷ filter here gs) (filter here gs)))) t)
      | inr t ↦
          ap (λ x. present (x ∷ map (stays tick) gs)) (cond-false (is_none g.left) stayed g t)
          ∙ ap (λ c. map (λ g. g.listener) (cond c (g ∷ filter here (map (stays tick) gs)) (filter here (map (stays tick) gs)))) t
          ∙ ih
          ∙ sym (ap (λ c. map (hears tick) (map (λ g. g.listener) (cond c (g ∷ filter here gs) (filter here gs)))) t)
    ]

-- the listeners are the guests who haven't left
pub listeners-present : (coder : Coder) (h : Feed) → listeners coder h ≡ present (guests coder h)
listeners-present coder [] = refl
listeners-present coder (Join spec ∷ h) =
    let new : Guest = record { listener = begins coder spec (closes h); left = None } in
    ap (λ ls. ls ++ begins coder spec (closes h) ∷ []) (listeners-present coder h)
    ∙ sym (ap (map (λ g. g.listener)) (filter-append' here (guests coder h) (new ∷ [])) ∙ map-append (λ g. g.listener) (filter here (guests coder h)) (new ∷ []))
listeners-present coder (Leave m ∷ h) =
    ap (filter (λ l. not (l.spec.member == m))) (listeners-present coder h) ∙ sym (present-goes m (closes h) (guests coder h))
listeners-present coder (Close tick ∷ h) = ap (map (hears tick)) (listeners-present coder h) ∙ sym (present-stays tick (guests coder h))
listeners-present coder (Collect ∷ h) = listeners-present coder h
listeners-present coder (End ∷ h) = listeners-present coder h
listeners-present coder (Cut ∷ h) = listeners-present coder h

-- ---- the packets of a tick ----

pub some-left : (o : Option ℕ) (c : ℕ) → is_none o ≡ false → unwrap_or o c ≡ unwrap_or o 0
some-left None c t = absurd (false≢true (sym t))
some-left (Some k) c t = refl

pub none-left : (o : Option ℕ) (c : ℕ) → is_none o ≡ true → unwrap_or o c ≡ c
none-left None c t = refl
none-left (Some k) c t = absurd (false≢true t)

-- a guest has heard each tick from its join to its leave
pub until-dated : (coder : Coder) (h : Feed) (g : Guest) → In g (guests coder h) → until h g ≡ g.listener.from + length g.listener.heard
until-dated coder h g i =
    let d = dated coder h g i in
    elim (cases_Bool (is_none g.left)) [
      | inl t ↦ none-left g.left (closes h) t ∙ sym (d.here t)
      | inr t ↦ some-left g.left (closes h) t ∙ d.gone t
    ]

pub flat_map-filter : {X Y : Type 0} (f : X → List Y) (p : X → Bool) (xs : List X) → ((x : X) → In x xs → p x ≡ false → f x ≡ [])
    → flat_map f xs ≡ flat_map f (filter p xs)
flat_map-filter f p [] none = refl
flat_map-filter f p (x ∷ xs) none =
    let ih = flat_map-filter f p xs (λ y i. none y (inr i)) in
    elim (cases_Bool (p x)) [
      | inl t ↦ ap (λ ys. f x ++ ys) ih ∙ sym (ap (flat_map f) (cond-true (p x) (x ∷ filter p xs) (filter p xs) t))
      | inr t ↦
          ap (λ ys. ys ++ flat_map f xs) (none x (inl refl) t) ∙ ih
          ∙ sym (ap (flat_map f) (cond-false (p x) (x ∷ filter p xs) (filter p xs) t))
    ]

pub sent-tick : (coder : Coder) (k : ℕ) (h : Feed)
    → sent coder k h ≡ flat_map (λ g. packets_at coder k g.listener) (filter (is_sent_at k h) (guests coder h))
sent-tick coder k h =
    flat_map-filter (λ g. packets_at coder k g.listener) (is_sent_at k h) (guests coder h)
    (λ g i t.
    elim (and_cases (nat_le g.listener.from k) (nat_le k (until h g)) t) [
      | inl u ↦ early-at coder g.listener k (leb-false g.listener.from k u)
      | inr u ↦ let past = leb-false k (until h g) u in let e = until-dated coder h g i in late-at coder g.listener k (omega arith)
    ])

-- ---- what was sent stays ----

pub closes-more : (since h : Feed) → closes h ≤ closes (since ++ h)
closes-more [] h = omega arith
closes-more (Join spec ∷ s) h = closes-more s h
closes-more (Leave m ∷ s) h = closes-more s h
closes-more (Close tick ∷ s) h = let ih = closes-more s h in omega arith
closes-more (Collect ∷ s) h = closes-more s h
closes-more (End ∷ s) h = closes-more s h
closes-more (Cut ∷ s) h = closes-more s h

pub sent-goes : (coder : Coder) (k m n : ℕ) (gs : List Guest)
    → flat_map (λ g. packets_at coder k g.listener) (map (goes m n) gs) ≡ flat_map (λ g. packets_at coder k g.listener) gs
sent-goes coder k m n [] = refl
sent-goes coder k m n (g ∷ gs) =
    let P : Guest → Type 0 = λ x. packets_at coder k x.listener ≡ packets_at coder k g.listener in
    ap (λ ps. ps ++ flat_map (λ x. packets_at coder k x.listener) (map (goes m n) gs))
    (cond_both (is_none g.left && (g.listener.spec.member == m)) (record { listener = g.listener; left = Some n }) g P (λ t. refl) (λ t. refl))
    ∙ ap (λ ps. packets_at coder k g.listener ++ ps) (sent-goes coder k m n gs)

pub sent-closes : (coder : Coder) (k : ℕ) (h : Feed) → k < closes h → (tick : Tick) (gs : List Guest) → ((g : Guest) → In g gs → Dated h g)
    → flat_map (λ g. packets_at coder k g.listener) (map (stays tick) gs) ≡ flat_map (λ g. packets_at coder k g.listener) gs
sent-closes coder k h lt tick [] d = refl
sent-closes coder k h lt tick (g ∷ gs) d =
    let P : Guest → Type 0 = λ x. packets_at coder k x.listener ≡ packets_at coder k g.listener in
    ap (λ ps. ps ++ flat_map (λ x. packets_at coder k x.listener) (map (stays tick) gs))
    (cond_both (is_none g.left) (record { listener = hears tick g.listener; left = None }) g P
    (λ t. let e = (d g (inl refl)).here t in hears-at coder tick g.listener k (omega arith)) (λ t. refl))
    ∙ ap (λ ps. packets_at coder k g.listener ++ ps) (sent-closes coder k h lt tick gs (λ x i. d x (inr i)))

pub sent-stays : (coder : Coder) (k : ℕ) (since h : Feed) → k < closes h → sent coder k (since ++ h) ≡ sent coder k h
sent-stays coder k [] h lt = refl
sent-stays coder k (Join spec ∷ s) h lt =
    let gs = guests coder (s ++ h) in
    let at = λ (g : Guest). packets_at coder k g.listener in
    flat_map-append at gs (record { listener = begins coder spec (closes (s ++ h)); left = None } ∷ [])
    ∙ append-nil (flat_map at gs) ∙ sent-stays coder k s h lt
sent-stays coder k (Leave m ∷ s) h lt = sent-goes coder k m (closes (s ++ h)) (guests coder (s ++ h)) ∙ sent-stays coder k s h lt
sent-stays coder k (Close tick ∷ s) h lt =
    let more = closes-more s h in
    sent-closes coder k (s ++ h) (omega arith) tick (guests coder (s ++ h)) (dated coder (s ++ h)) ∙ sent-stays coder k s h lt
sent-stays coder k (Collect ∷ s) h lt = sent-stays coder k s h lt
sent-stays coder k (End ∷ s) h lt = sent-stays coder k s h lt
sent-stays coder k (Cut ∷ s) h lt = sent-stays coder k s h lt
