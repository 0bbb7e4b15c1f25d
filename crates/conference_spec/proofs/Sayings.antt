-- The sentences that people know, over guests, packets and an encoder alone.
use Rattle.std.proofs.Common.{◌≡◌, ℕ, ◌+◌, ◌*◌, ◌<◌, inl, inr, Bool, true, ◌&&◌, List, [], ◌∷◌, ◌++◌, length, map, refl, sym, ◌∙◌, ap, subst, arith, Some, None, take, drop}
use Rattle.std.specs.Prelude.{◌==◌, nat_lt, nat_le, unwrap_or, is_none, reverse, Contains}
use Rattle.std.specs.List.{filter, range_with_len, AllZip}
use Rattle.std.proofs.lemmas.Bool.{cases_Bool, cond_both, cond-true, cond-false, eqb-true, eqb-false, lt-ltb, le-ltb, le-leb, lt-leb, and_parts, and_from, and_left, and_right}
use Rattle.std.proofs.lemmas.List.{append-nil}
use Rattle.talk_mix.specs.declared.ticks.Tick.{Tick}
use Rattle.talk_mix.specs.Mix.{mix}
use Rattle.conference_spec.specs.declared.Entry.TheVariants.{Join, Leave, Close, Collect, Cut, End}
use Rattle.conference_spec.specs.Coding.{Coder, payloads_of}
use Rattle.conference_spec.specs.Feed.{Feed, Listener, Guest, WasThere, is_at, guests, goes, stays, before, talkers, listeners, hears, begins, closes}
use Rattle.conference_spec.specs.Packets.{payloads_a_packet, own_payloads, ith_packet, packets}
use Rattle.conference_spec.proofs.Members.{In, in-append_cases, in-map_cases}
use Rattle.conference_spec.proofs.Stages.{filter-append'}
use Rattle.conference_spec.proofs.Told.{contains-in}
use Rattle.conference_spec.proofs.Sends.{dated, listeners-present, some-left, none-left}

-- ---- the listeners of a tick ----

-- guests that change but still pass the test with what they are zipped with
zip-kept : (R S : Guest → Listener → Type 0) (f : Guest → Guest) (p q : Guest → Bool) (gs : List Guest) (ls : List Listener)
    → ((g : Guest) → In g gs → p (f g) ≡ q g) → ((g : Guest) (l : Listener) → q g ≡ true → R g l → S (f g) l)
    → AllZip R (filter q gs) ls → AllZip S (filter p (map f gs)) ls
zip-kept R S f p q [] [] same more z = z
zip-kept R S f p q [] (l ∷ ls) same more z = absurd z
zip-kept R S f p q (g ∷ gs) ls same more z =
    let rest = λ (ks : List Listener). zip-kept R S f p q gs ks (λ x i. same x (inr i)) more in
    let at : (ks : List Listener) → q g ≡ true → AllZip R (g ∷ filter q gs) ks → AllZip S (f g ∷ filter p (map f gs)) ks = elim [
      | [] ↦ λ t y. absurd y
      | k ∷ ks ↦ λ t y. (more g k t y.0, rest ks y.1)
    ] in
    elim (cases_Bool (q g)) [
      | inl t ↦
          let new : filter p (map f (g ∷ gs)) ≡ f g ∷ filter p (map f gs) =
          cond-true (p (f g)) (f g ∷ filter p (map f gs)) (filter p (map f gs)) (same g (inl refl) ∙ t) in
          subst (λ xs. AllZip S xs ls) (sym new) (at ls t (subst (λ xs. AllZip R xs ls) (cond-true (q g) (g ∷ filter q gs) (filter q gs) t) z))
      | inr t ↦
          let new : filter p (map f (g ∷ gs)) ≡ filter p (map f gs) =
          cond-false (p (f g)) (f g ∷ filter p (map f gs)) (filter p (map f gs)) (same g (inl refl) ∙ t) in
          subst (λ xs. AllZip S xs ls) (sym new) (rest ls (subst (λ xs. AllZip R xs ls) (cond-false (q g) (g ∷ filter q gs) (filter q gs) t) z))
    ]

-- each guest with itself as a listener
zip-own : (gs : List Guest) → AllZip (λ g l. l ≡ g.listener) gs (map (λ g. g.listener) gs)
zip-own [] = tt
zip-own (g ∷ gs) = (refl, zip-own gs)

pub closed-talkers : (k : ℕ) (h : Feed) (tick : Tick) → talkers k h ≡ Some tick → k < closes h
closed-talkers k [] tick e = cc
closed-talkers k (Join spec ∷ h) tick e = closed-talkers k h tick e
closed-talkers k (Leave m ∷ h) tick e = closed-talkers k h tick e
closed-talkers k (Close t ∷ h) tick e =
    elim (cases_Bool (closes h == k)) [
      | inl y ↦ let at = eqb-true (closes h) k y in omega arith
      | inr y ↦ let lt = closed-talkers k h tick (sym (cond-false (closes h == k) (Some t) (talkers k h) y) ∙ e) in omega arith
    ]
closed-talkers k (Collect ∷ h) tick e = closed-talkers k h tick e
closed-talkers k (End ∷ h) tick e = closed-talkers k h tick e
closed-talkers k (Cut ∷ h) tick e = closed-talkers k h tick e

pub talkers-closed : (k : ℕ) (h : Feed) → k < closes h → (tick : Tick) × (talkers k h ≡ Some tick)
talkers-closed k [] lt = absurd (omega arith)
talkers-closed k (Join spec ∷ h) lt = talkers-closed k h lt
talkers-closed k (Leave m ∷ h) lt = talkers-closed k h lt
talkers-closed k (Close t ∷ h) lt =
    elim (cases_Bool (closes h == k)) [
      | inl y ↦ (t, cond-true (closes h == k) (Some t) (talkers k h) y)
      | inr y ↦
          let ne = eqb-false (closes h) k y in
          let r = talkers-closed k h (omega arith) in (r.0, cond-false (closes h == k) (Some t) (talkers k h) y ∙ r.1)
    ]
talkers-closed k (Collect ∷ h) lt = talkers-closed k h lt
talkers-closed k (End ∷ h) lt = talkers-closed k h lt
talkers-closed k (Cut ∷ h) lt = talkers-closed k h lt

-- what was said of a guest at a tick is said of it after one more
was-hears : (tick now : Tick) (g : Guest) (l : Listener) → WasThere tick g l → WasThere tick (stays now g) l
was-hears tick now g l was =
    cond_both (is_none g.left) (record { listener = hears now g.listener; left = None }) g (λ x. WasThere tick x l)
    (λ t. record {
      spec = was.spec;
      from = was.from;
      first = was.first;
      later = mix g.listener.spec.member now ∷ was.later;
      heard = ap (λ xs. mix g.listener.spec.member now ∷ xs) was.heard;
    })
    (λ t. was)

was-now : (tick : Tick) (g : Guest) (l : Listener) → is_none g.left ≡ true → l ≡ g.listener → WasThere tick (stays tick g) l
was-now tick g l t e =
    let stayed : Guest = record { listener = hears tick g.listener; left = None } in
    let at : WasThere tick stayed g.listener = record { spec = refl; from = refl; first = refl; later = []; heard = refl } in
    subst (λ x. WasThere tick x l) (sym (cond-true (is_none g.left) stayed g t)) (subst (WasThere tick stayed) (sym e) at)

was-goes : (tick : Tick) (m c : ℕ) (g : Guest) (l : Listener) → WasThere tick g l → WasThere tick (goes m c g) l
was-goes tick m c g l was =
    cond_both (is_none g.left && (g.listener.spec.member == m)) (record { listener = g.listener; left = Some c }) g (λ x. WasThere tick x l)
    (λ t. record { spec = was.spec; from = was.from; first = was.first; later = was.later; heard = was.heard }) (λ t. was)

-- a leave after tick k takes nobody from it
at-goes : (k m c : ℕ) (g : Guest) → is_at k c (goes m c g) ≡ is_at k c g
at-goes k m c g =
    cond_both (is_none g.left && (g.listener.spec.member == m)) (record { listener = g.listener; left = Some c }) g (λ x. is_at k c x ≡ is_at k c g)
    (λ t. ap (λ n. nat_le g.listener.from k && nat_lt k n) (sym (none-left g.left c (and_parts (is_none g.left) (g.listener.spec.member == m) t).0)))
    (λ t. refl)

-- at the tick that is closed those listen who are here
at-closing : (coder : Coder) (h : Feed) (tick : Tick) (g : Guest) → In g (guests coder h) → is_at (closes h) (closes h + 1) (stays tick g) ≡ is_none g.left
at-closing coder h tick g i =
    let c = closes h in
    let d = dated coder h g i in
    let le = d.within in
    cond_both (is_none g.left) (record { listener = hears tick g.listener; left = None }) g (λ x. is_at c (c + 1) x ≡ is_none g.left)
    (λ t. and_from (nat_le g.listener.from c) (nat_lt c (c + 1)) (le-leb g.listener.from c (omega arith)) (lt-ltb c (c + 1) (omega arith)) ∙ sym t)
    (λ t.
    let left_at : unwrap_or g.left (c + 1) ≡ g.listener.from + length g.listener.heard = some-left g.left (c + 1) t ∙ d.gone t in
    and_right (nat_le g.listener.from c) (nat_lt c (unwrap_or g.left (c + 1))) (le-ltb c (unwrap_or g.left (c + 1)) (omega arith)) ∙ sym t)

-- a later close changes nothing of tick k
at-later : (k c : ℕ) (tick : Tick) (g : Guest) → k < c → is_at k (c + 1) (stays tick g) ≡ is_at k c g
at-later k c tick g lt =
    cond_both (is_none g.left) (record { listener = hears tick g.listener; left = None }) g (λ x. is_at k (c + 1) x ≡ is_at k c g)
    (λ t. ap (λ b. nat_le g.listener.from k && b) (lt-ltb k (c + 1) (omega arith) ∙ sym (ap (nat_lt k) (none-left g.left c t) ∙ lt-ltb k c lt)))
    (λ t. ap (λ n. nat_le g.listener.from k && nat_lt k n) (some-left g.left (c + 1) t ∙ sym (some-left g.left c t)))

pub were-there : (coder : Coder) (k : ℕ) (h : Feed) (tick : Tick) → talkers k h ≡ Some tick
    → AllZip (WasThere tick) (filter (is_at k (closes h)) (guests coder h)) (listeners coder (before k h))
were-there coder k [] tick e = cc
were-there coder k (Join spec ∷ h) tick e =
    let new : Guest = record { listener = begins coder spec (closes h); left = None } in
    let p = is_at k (closes h) in
    let lt = closed-talkers k h tick e in
    subst (λ xs. AllZip (WasThere tick) xs (listeners coder (before k h)))
    (sym (filter-append' p (guests coder h) (new ∷ [])
    ∙ ap (λ gs. filter p (guests coder h) ++ gs)
    (cond-false (p new) (new ∷ []) [] (and_left (nat_le (closes h) k) (nat_lt k (closes h)) (lt-leb (closes h) k lt)))
    ∙ append-nil (filter p (guests coder h))))
    (were-there coder k h tick e)
were-there coder k (Leave m ∷ h) tick e =
    let p = is_at k (closes h) in
    zip-kept (WasThere tick) (WasThere tick) (goes m (closes h)) p p (guests coder h) (listeners coder (before k h))
    (λ g i. at-goes k m (closes h) g) (λ g l t was. was-goes tick m (closes h) g l was) (were-there coder k h tick e)
were-there coder k (Close now ∷ h) tick e =
    let c = closes h in
    elim (cases_Bool (c == k)) [
      | inl t ↦
          let at : c ≡ k = eqb-true c k t in
          let same : now ≡ tick = let some : Some now ≡ Some tick = sym (cond-true (c == k) (Some now) (talkers k h) t) ∙ e in cc in
          let ls : listeners coder (before k (Close now ∷ h)) ≡ map (λ g. g.listener) (filter (λ g. is_none g.left) (guests coder h)) =
          ap (listeners coder) (cond-true (c == k) h (before k h) t) ∙ listeners-present coder h in
          subst (λ xs. AllZip (WasThere tick) (filter (is_at k (c + 1)) (map (stays now) (guests coder h))) xs) (sym ls)
          (subst (λ j. AllZip (WasThere tick) (filter (is_at j (c + 1)) (map (stays now) (guests coder h)))
          (map (λ g. g.listener) (filter (λ g. is_none g.left) (guests coder h)))) at
          (zip-kept (λ g l. l ≡ g.listener) (WasThere tick) (stays now) (is_at c (c + 1)) (λ g. is_none g.left) (guests coder h) _
          (λ g i. at-closing coder h now g i)
          (λ g l here own. subst (λ t. WasThere tick (stays t g) l) (sym same) (was-now tick g l here own))
          (zip-own (filter (λ g. is_none g.left) (guests coder h)))))
      | inr t ↦
          let rest : talkers k h ≡ Some tick = sym (cond-false (c == k) (Some now) (talkers k h) t) ∙ e in
          let lt = closed-talkers k h tick rest in
          subst (λ x. AllZip (WasThere tick) (filter (is_at k (c + 1)) (map (stays now) (guests coder h))) (listeners coder x))
          (sym (cond-false (c == k) h (before k h) t))
          (zip-kept (WasThere tick) (WasThere tick) (stays now) (is_at k (c + 1)) (is_at k c) (guests coder h) (listeners coder (before k h))
          (λ g i. at-later k c now g lt) (λ g l at was. was-hears tick now g l was) (were-there coder k h tick rest))
    ]
were-there coder k (Collect ∷ h) tick e = were-there coder k h tick e
were-there coder k (End ∷ h) tick e = were-there coder k h tick e
were-there coder k (Cut ∷ h) tick e = were-there coder k h tick e

zip-specs : (tick : Tick) (gs : List Guest) (ls : List Listener) → AllZip (WasThere tick) gs ls → map (λ l. l.spec) ls ≡ map (λ g. g.listener.spec) gs
zip-specs tick [] [] z = refl
zip-specs tick [] (l ∷ ls) z = absurd z
zip-specs tick (g ∷ gs) [] z = absurd z
zip-specs tick (g ∷ gs) (l ∷ ls) z = ap (λ s. s ∷ map (λ x. x.spec) ls) (sym z.0.spec) ∙ ap (λ ss. g.listener.spec ∷ ss) (zip-specs tick gs ls z.1)

pub listeners-tick : (coder : Coder) (k : ℕ) (h : Feed) → k < closes h
    → map (λ l. l.spec) (listeners coder (before k h)) ≡ map (λ g. g.listener.spec) (filter (is_at k (closes h)) (guests coder h))
listeners-tick coder k h lt =
    let t = talkers-closed k h lt in
    zip-specs t.0 (filter (is_at k (closes h)) (guests coder h)) (listeners coder (before k h)) (were-there coder k h t.0 t.1)

pub map-map : {X Y Z : Type 0} (f : X → Y) (g : Y → Z) (xs : List X) → map g (map f xs) ≡ map (λ x. g (f x)) xs
map-map f g [] = refl
map-map f g (x ∷ xs) = ap (λ ys. g (f x) ∷ ys) (map-map f g xs)

-- ---- payloads depend on rate and mixes alone ----

pub guest-first : (coder : Coder) (h : Feed) (g : Guest) → In g (guests coder h) → g.listener.first ≡ coder.start
guest-first coder [] g i = absurd i
guest-first coder (Join spec ∷ h) g i =
    elim (in-append_cases g (guests coder h) (record { listener = begins coder spec (closes h); left = None } ∷ []) i) [
      | inl a ↦ guest-first coder h g a
      | inr b ↦ elim b [ inl e ↦ sym (ap (λ x. x.listener.first) e) | inr z ↦ absurd z ]
    ]
guest-first coder (Leave m ∷ h) g i =
    let s = in-map_cases (goes m (closes h)) g (guests coder h) i in
    let P : Guest → Type 0 = λ x. x.listener.first ≡ coder.start in
    subst P s.2 (cond_both (is_none s.0.left && (s.0.listener.spec.member == m)) (record { listener = s.0.listener; left = Some (closes h) }) s.0 P
    (λ t. guest-first coder h s.0 s.1) (λ t. guest-first coder h s.0 s.1))
guest-first coder (Close tick ∷ h) g i =
    let s = in-map_cases (stays tick) g (guests coder h) i in
    let P : Guest → Type 0 = λ x. x.listener.first ≡ coder.start in
    subst P s.2 (cond_both (is_none s.0.left) (record { listener = hears tick s.0.listener; left = None }) s.0 P
    (λ t. guest-first coder h s.0 s.1) (λ t. guest-first coder h s.0 s.1))
guest-first coder (Collect ∷ h) g i = guest-first coder h g i
guest-first coder (End ∷ h) g i = guest-first coder h g i
guest-first coder (Cut ∷ h) g i = guest-first coder h g i

pub own-same : (coder : Coder) (one other : Feed) (g h : Guest) → Contains (guests coder one) g → Contains (guests coder other) h
    → g.listener.spec.rate ≡ h.listener.spec.rate → g.listener.heard ≡ h.listener.heard
    → own_payloads coder g.listener ≡ own_payloads coder h.listener
own-same coder one other g h i j r e =
    let first : g.listener.first ≡ h.listener.first =
    guest-first coder one g (contains-in (guests coder one) g i) ∙ sym (guest-first coder other h (contains-in (guests coder other) h j)) in
    ap (λ x. payloads_of coder x g.listener.first (reverse g.listener.heard)) r
    ∙ ap (λ x. payloads_of coder h.listener.spec.rate x (reverse g.listener.heard)) first
    ∙ ap (λ x. payloads_of coder h.listener.spec.rate h.listener.first (reverse x)) e

-- what packets of b payloads carry, with no other word of their listener
abbrev cut : ℕ → ℕ → List (List ℕ) → List (List (List ℕ))
cut b n ps = map (λ i. take b (drop (b * i) ps)) (filter (λ i. nat_lt (b * i) n) (range_with_len 0 n))

packets-cut : (coder : Coder) (l : Listener)
    → map (λ s. s.packet.payload) (packets coder l) ≡ cut (payloads_a_packet l.spec) (length l.heard) (own_payloads coder l)
packets-cut coder l =
    map-map (ith_packet coder l) (λ s. s.packet.payload)
    (filter (λ i. nat_lt (payloads_a_packet l.spec * i) (length l.heard)) (range_with_len 0 (length l.heard)))

pub packets-same : (coder : Coder) (one other : Feed) (g h : Guest) → Contains (guests coder one) g → Contains (guests coder other) h
    → g.listener.spec.rate ≡ h.listener.spec.rate → g.listener.heard ≡ h.listener.heard
    → payloads_a_packet g.listener.spec ≡ payloads_a_packet h.listener.spec
    → map (λ s. s.packet.payload) (packets coder g.listener) ≡ map (λ s. s.packet.payload) (packets coder h.listener)
packets-same coder one other g h i j r e b =
    packets-cut coder g.listener
    ∙ ap (λ x. cut x (length g.listener.heard) (own_payloads coder g.listener)) b
    ∙ ap (λ x. cut (payloads_a_packet h.listener.spec) (length x) (own_payloads coder g.listener)) e
    ∙ ap (cut (payloads_a_packet h.listener.spec) (length h.listener.heard)) (own-same coder one other g h i j r e)
    ∙ sym (packets-cut coder h.listener)
