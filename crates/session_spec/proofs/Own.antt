-- The packets of one listener among all that were sent.
use Rattle.std.proofs.Common.{suc, zero, ◌≡◌, ℕ, ◌+◌, ◌-◌, ◌*◌, ◌≤◌, ◌<◌, inl, inr, Bool, true, false, ◌&&◌, not, cond, List, [], ◌∷◌, ◌++◌, length, map, refl, sym, ◌∙◌, ap, subst, arith, add-one, Some, None}
use Rattle.std.specs.Prelude.{◌==◌, nat_lt, nat_le, is_none, Contains}
use Rattle.std.specs.List.{filter, flat_map, list_any, range_with_len}
use Rattle.std.proofs.lemmas.Bool.{cases_lt, cases_eq, cond_both, cond-true, cond-false, eq-eqb, ne_eqb, lt-ltb, le-ltb, leb-true, leb-false, and_parts, both_ways}
use Rattle.std.proofs.lemmas.List.{append-nil, map-append}
use Rattle.std.proofs.Math.Nat.{mul-suc}
use Rattle.talk_mix.specs.declared.ticks.Tick.{Tick}
use Rattle.conference_spec.specs.declared.Packet.{Packet}
use Rattle.conference_spec.specs.declared.Entry.TheVariants.{Join, Leave, Close, Collect, Cut, End}
use Rattle.conference_spec.specs.Coding.{Coder}
use Rattle.conference_spec.specs.Feed.{Feed, Listener, Guest, guests, goes, stays, hears, begins, closes, joined, ended, is_legal, may_follow, listeners}
use Rattle.conference_spec.specs.Packets.{Sending, payloads_a_packet, ith_packet, packets, packets_at, sent, rest}
use Rattle.conference_spec.proofs.Members.{In, Once, in-append_cases, in-map, in-map_cases, in-filter_parts, in-any, once-append}
use Rattle.conference_spec.proofs.Stages.{filter-append'}
use Rattle.conference_spec.proofs.Told.{contains-in}
use Rattle.conference_spec.proofs.Sends.{dated}
use Rattle.session_spec.specs.Answer.{sent_to}
use Rattle.session_spec.specs.Laws.{packets_to}

-- ---- guests have different numbers ----

abbrev pub member_of : Guest → ℕ
member_of g = g.listener.spec.member

pub members-goes : (m k : ℕ) (gs : List Guest) → map member_of (map (goes m k) gs) ≡ map member_of gs
members-goes m k [] = refl
members-goes m k (g ∷ gs) =
    let P : Guest → Type 0 = λ x. member_of x ∷ map member_of (map (goes m k) gs) ≡ member_of g ∷ map member_of gs in
    let ih = ap (λ ms. member_of g ∷ ms) (members-goes m k gs) in
    cond_both (is_none g.left && (g.listener.spec.member == m)) (record { listener = g.listener; left = Some k }) g P (λ t. ih) (λ t. ih)

pub members-stays : (tick : Tick) (gs : List Guest) → map member_of (map (stays tick) gs) ≡ map member_of gs
members-stays tick [] = refl
members-stays tick (g ∷ gs) =
    let P : Guest → Type 0 = λ x. member_of x ∷ map member_of (map (stays tick) gs) ≡ member_of g ∷ map member_of gs in
    let ih = ap (λ ms. member_of g ∷ ms) (members-stays tick gs) in
    cond_both (is_none g.left) (record { listener = hears tick g.listener; left = None }) g P (λ t. ih) (λ t. ih)

pub members-joined : (coder : Coder) (h : Feed) (m : ℕ) → In m (map member_of (guests coder h)) → In m (joined h)
members-joined coder [] m i = i
members-joined coder (Join spec ∷ h) m i =
    let new : Guest = record { listener = begins coder spec (closes h); left = None } in
    let P : List ℕ → Type 0 = λ ms. In m ms in
    elim (in-append_cases m (map member_of (guests coder h)) (spec.member ∷ []) (subst P (map-append member_of (guests coder h) (new ∷ [])) i)) [
      | inl a ↦ inr (members-joined coder h m a)
      | inr b ↦ elim b [ inl e ↦ inl e | inr z ↦ absurd z ]
    ]
members-joined coder (Leave n ∷ h) m i =
    let P : List ℕ → Type 0 = λ ms. In m ms in
    members-joined coder h m (subst P (members-goes n (closes h) (guests coder h)) i)
members-joined coder (Close tick ∷ h) m i =
    let P : List ℕ → Type 0 = λ ms. In m ms in
    members-joined coder h m (subst P (members-stays tick (guests coder h)) i)
members-joined coder (Collect ∷ h) m i = members-joined coder h m i
members-joined coder (Cut ∷ h) m i = members-joined coder h m i
members-joined coder (End ∷ h) m i = members-joined coder h m i

not-false : (b : Bool) → not b ≡ true → b ≡ false
not-false true e = sym e
not-false false e = refl

abbrev AreOnce : List ℕ → Type 0
AreOnce ms = Once ms

pub members-once : (coder : Coder) (h : Feed) → is_legal coder h ≡ true → Once (map member_of (guests coder h))
members-once coder [] l = tt
members-once coder (Join spec ∷ h) l =
    let new : Guest = record { listener = begins coder spec (closes h); left = None } in
    let parts = and_parts (may_follow coder h (Join spec)) (is_legal coder h) l in
    let fresh = and_parts (not (list_any (λ m. m == spec.member) (joined h))) (nat_lt (length (listeners coder h)) 1024 && not (ended h)) parts.0 in
    subst AreOnce (sym (map-append member_of (guests coder h) (new ∷ [])))
    (once-append (map member_of (guests coder h)) (spec.member ∷ []) (members-once coder h parts.1) ((λ i. i), tt)
    (λ m i j. elim j [
      | inl e ↦
          let there : list_any (λ m. m == spec.member) (joined h) ≡ true =
          in-any (λ m. m == spec.member) m (joined h) (members-joined coder h m i) (eq-eqb m spec.member (sym e)) in
          both_ways (list_any (λ m. m == spec.member) (joined h)) (not-false (list_any (λ m. m == spec.member) (joined h)) fresh.0) there
      | inr z ↦ z
    ]))
members-once coder (Leave n ∷ h) l =
    subst AreOnce (sym (members-goes n (closes h) (guests coder h))) (members-once coder h (and_parts (may_follow coder h (Leave n)) (is_legal coder h) l).1)
members-once coder (Close tick ∷ h) l =
    subst AreOnce (sym (members-stays tick (guests coder h))) (members-once coder h (and_parts (may_follow coder h (Close tick)) (is_legal coder h) l).1)
members-once coder (Collect ∷ h) l = members-once coder h (and_parts (may_follow coder h Collect) (is_legal coder h) l).1
members-once coder (Cut ∷ h) l = members-once coder h (and_parts (may_follow coder h Cut) (is_legal coder h) l).1
members-once coder (End ∷ h) l = members-once coder h (and_parts (may_follow coder h End) (is_legal coder h) l).1

-- ---- a guest's packets at a tick ----

at : ℕ → Sending → Bool
at k s = s.tick == k

pub packets-member : (coder : Coder) (k : ℕ) (g : Guest) (p : Packet) → In p (packets_at coder k g.listener) → p.member ≡ member_of g
packets-member coder k g p i =
    let l = g.listener in
    let s = in-map_cases (λ (x : Sending). x.packet) p (filter (λ x. x.tick == k) (packets coder l)) i in
    let there = (in-filter_parts (λ (x : Sending). x.tick == k) s.0 (packets coder l) s.1).0 in
    let n = in-map_cases (ith_packet coder l) s.0 (filter (λ j. nat_lt (payloads_a_packet l.spec * j) (length l.heard)) (range_with_len 0 (length l.heard))) there in
    sym (ap (λ x. x.member) s.2) ∙ ap (λ (x : Sending). x.packet.member) (sym n.2)

pub own-keeps : (m : ℕ) (ps : List Packet) → ((p : Packet) → In p ps → p.member ≡ m) → packets_to m ps ≡ ps
own-keeps m [] all = refl
own-keeps m (p ∷ ps) all =
    cond-true (p.member == m) (p ∷ packets_to m ps) (packets_to m ps) (eq-eqb p.member m (all p (inl refl)))
    ∙ ap (λ qs. p ∷ qs) (own-keeps m ps (λ q i. all q (inr i)))

pub own-drops : (m : ℕ) (ps : List Packet) → ((p : Packet) → In p ps → p.member ≡ m → ⊥) → packets_to m ps ≡ []
own-drops m [] none = refl
own-drops m (p ∷ ps) none =
    cond-false (p.member == m) (p ∷ packets_to m ps) (packets_to m ps) (ne_eqb p.member m (none p (inl refl)))
    ∙ own-drops m ps (λ q i. none q (inr i))

pub others-drop : (coder : Coder) (k m : ℕ) (gs : List Guest) → (In m (map member_of gs) → ⊥) → packets_to m (flat_map (λ x. packets_at coder k x.listener) gs) ≡ []
others-drop coder k m [] none = refl
others-drop coder k m (g ∷ gs) none =
    filter-append' (λ p. p.member == m) (packets_at coder k g.listener) (flat_map (λ x. packets_at coder k x.listener) gs)
    ∙ ap (λ ps. ps ++ packets_to m (flat_map (λ x. packets_at coder k x.listener) gs))
    (own-drops m (packets_at coder k g.listener) (λ p i e. none (inl (sym (packets-member coder k g p i) ∙ e))))
    ∙ others-drop coder k m gs (λ i. none (inr i))

pub own-picks : (coder : Coder) (k : ℕ) (g : Guest) (gs : List Guest) → Once (map member_of gs) → In g gs
    → packets_to (member_of g) (flat_map (λ x. packets_at coder k x.listener) gs) ≡ packets_at coder k g.listener
own-picks coder k g [] once i = absurd i
own-picks coder k g (x ∷ gs) once (inl e) =
    let m = member_of g in
    filter-append' (λ p. p.member == m) (packets_at coder k x.listener) (flat_map (λ x. packets_at coder k x.listener) gs)
    ∙ ap (λ ps. packets_to m (packets_at coder k x.listener) ++ ps) (others-drop coder k m gs (let P : Guest → Type 0 = λ y. In (member_of y) (map member_of gs) → ⊥ in subst P e once.0))
    ∙ append-nil (packets_to m (packets_at coder k x.listener))
    ∙ ap (λ y. packets_to m (packets_at coder k y.listener)) e
    ∙ own-keeps m (packets_at coder k g.listener) (λ p j. packets-member coder k g p j)
own-picks coder k g (x ∷ gs) once (inr i) =
    let m = member_of g in
    filter-append' (λ p. p.member == m) (packets_at coder k x.listener) (flat_map (λ x. packets_at coder k x.listener) gs)
    ∙ ap (λ ps. ps ++ packets_to m (flat_map (λ x. packets_at coder k x.listener) gs))
    (own-drops m (packets_at coder k x.listener) (λ p j e. once.0
    (let P : ℕ → Type 0 = λ n. In n (map member_of gs) in subst P (sym e ∙ packets-member coder k x p j) (in-map member_of g gs i))))
    ∙ own-picks coder k g gs once.1 i

-- ---- tick by tick ----

-- those of the first ticks
abbrev gathered : ℕ → List Sending → List Sending
gathered zero ss = []
gathered (suc n) ss = gathered n ss ++ filter (λ s. s.tick == n) ss

-- the ticks don't fall, and begin at this one or later
abbrev Rises : ℕ → List Sending → Type 0
Rises low [] = Unit {0}
Rises low (s ∷ ss) = (low ≤ s.tick) × Rises s.tick ss

-- nothing comes before
none-before : (n low : ℕ) (ss : List Sending) → n ≤ low → Rises low ss → filter (λ s. nat_lt s.tick n) ss ≡ []
none-before n low [] le up = refl
none-before n low (s ∷ ss) le up =
    cond-false (nat_lt s.tick n) (s ∷ filter (λ x. nat_lt x.tick n) ss) (filter (λ x. nat_lt x.tick n) ss) (le-ltb s.tick n (omega (arith, up.0)))
    ∙ none-before n s.tick ss (omega (arith, up.0)) up.1

next-tick : (n low : ℕ) (ss : List Sending) → Rises low ss →
    filter (λ s. nat_lt s.tick n) ss ++ filter (λ s. s.tick == n) ss ≡ filter (λ s. nat_lt s.tick (suc n)) ss
next-tick n low [] up = refl
next-tick n low (s ∷ ss) up =
    let before = filter (λ (x : Sending). nat_lt x.tick n) ss in
    let now = filter (λ (x : Sending). x.tick == n) ss in
    let later = filter (λ (x : Sending). nat_lt x.tick (suc n)) ss in
    let ih = next-tick n s.tick ss up.1 in
    elim (cases_lt s.tick n) [
      | inl lt ↦
          ap (λ xs. xs ++ filter (λ x. x.tick == n) (s ∷ ss)) (cond-true (nat_lt s.tick n) (s ∷ before) before (lt-ltb s.tick n lt))
          ∙ ap (λ xs. s ∷ before ++ xs) (cond-false (s.tick == n) (s ∷ now) now (ne_eqb s.tick n (λ e. omega arith)))
          ∙ ap (λ xs. s ∷ xs) ih
          ∙ sym (cond-true (nat_lt s.tick (suc n)) (s ∷ later) later (lt-ltb s.tick (suc n) (omega arith)))
      | inr ge ↦
          ap (λ xs. xs ++ filter (λ x. x.tick == n) (s ∷ ss)) (cond-false (nat_lt s.tick n) (s ∷ before) before (le-ltb s.tick n ge))
          ∙ elim (cases_eq s.tick n) [
            | inl e ↦
                let none = none-before n s.tick ss ge up.1 in
                ap (λ xs. xs ++ filter (λ x. x.tick == n) (s ∷ ss)) none
                ∙ cond-true (s.tick == n) (s ∷ now) now (eq-eqb s.tick n e)
                ∙ ap (λ xs. s ∷ xs) (ap (λ xs. xs ++ now) (sym none) ∙ ih)
                ∙ sym (cond-true (nat_lt s.tick (suc n)) (s ∷ later) later (lt-ltb s.tick (suc n) (omega arith)))
            | inr ne ↦
                ap (λ xs. before ++ xs) (cond-false (s.tick == n) (s ∷ now) now (ne_eqb s.tick n ne))
                ∙ ih
                ∙ sym (cond-false (nat_lt s.tick (suc n)) (s ∷ later) later
                (le-ltb s.tick (suc n) (elim (cases_lt s.tick (suc n)) [ inl lt ↦ absurd (ne (omega arith)) | inr le ↦ le ])))
          ]
    ]

gathered-before : (n low : ℕ) (ss : List Sending) → Rises low ss → gathered n ss ≡ filter (λ s. nat_lt s.tick n) ss
gathered-before zero low ss up = sym (none-before 0 low ss (omega arith) up)
gathered-before (suc n) low ss up =
    ap (λ xs. xs ++ filter (λ s. s.tick == n) ss) (gathered-before n low ss up) ∙ next-tick n low ss up

all-before : (n : ℕ) (ss : List Sending) → ((s : Sending) → In s ss → s.tick < n) → filter (λ s. nat_lt s.tick n) ss ≡ ss
all-before n [] all = refl
all-before n (s ∷ ss) all =
    cond-true (nat_lt s.tick n) (s ∷ filter (λ x. nat_lt x.tick n) ss) (filter (λ x. nat_lt x.tick n) ss) (lt-ltb s.tick n (all s (inl refl)))
    ∙ ap (λ xs. s ∷ xs) (all-before n ss (λ x i. all x (inr i)))

-- ---- a listener's packets rise ----

-- where the payloads before a packet are so many
abbrev ends_at : ℕ → ℕ → ℕ → ℕ → ℕ
ends_at from b n m = cond (nat_le (m + b) n) (from + (m + b - 1)) (from + n)

ends-rise : (from b n m later : ℕ) → m ≤ later → ends_at from b n m ≤ ends_at from b n later
ends-rise from b n m later le =
    cond_both (nat_le (m + b) n) (from + (m + b - 1)) (from + n) (λ k. k ≤ ends_at from b n later)
    (λ t. cond_both (nat_le (later + b) n) (from + (later + b - 1)) (from + n) (λ k. from + (m + b - 1) ≤ k)
    (λ u. omega arith)
    (λ u. omega (arith, leb-true (m + b) n t)))
    (λ t. cond_both (nat_le (later + b) n) (from + (later + b - 1)) (from + n) (λ k. from + n ≤ k)
    (λ u. omega (arith, leb-false (m + b) n t, leb-true (later + b) n u))
    (λ u. omega arith))

ends-within : (from b n m : ℕ) → ends_at from b n m ≤ from + n
ends-within from b n m =
    cond_both (nat_le (m + b) n) (from + (m + b - 1)) (from + n) (λ k. k ≤ from + n)
    (λ t. omega (arith, leb-true (m + b) n t))
    (λ t. omega arith)

tick-rises : (coder : Coder) (l : Listener) (i : ℕ) → (ith_packet coder l i).tick ≤ (ith_packet coder l (i + 1)).tick
tick-rises coder l i =
    let b = payloads_a_packet l.spec in
    let more : b * (i + 1) ≡ b * i + b = rw add-one (mul-suc b i) in
    ends-rise l.from b (length l.heard) (b * i) (b * (i + 1)) (omega (arith, more))

packets-rise : (coder : Coder) (l : Listener) (p : ℕ → Bool) (low i n : ℕ) → low ≤ (ith_packet coder l i).tick
    → Rises low (map (ith_packet coder l) (filter p (range_with_len i n)))
packets-rise coder l p low i zero le = tt
packets-rise coder l p low i (suc n) le =
    let more = tick-rises coder l i in
    let next = filter p (range_with_len (i + 1) n) in
    cond_both (p i) (i ∷ next) next (λ is. Rises low (map (ith_packet coder l) is))
    (λ t. (le, packets-rise coder l p (ith_packet coder l i).tick (i + 1) n more))
    (λ t. packets-rise coder l p low (i + 1) n (omega arith))

packets-within : (coder : Coder) (l : Listener) (s : Sending) → In s (packets coder l) → s.tick ≤ l.from + length l.heard
packets-within coder l s there =
    let b = payloads_a_packet l.spec in
    let n = in-map_cases (ith_packet coder l) s (filter (λ j. nat_lt (b * j) (length l.heard)) (range_with_len 0 (length l.heard))) there in
    subst (λ (x : Sending). x.tick ≤ l.from + length l.heard) n.2 (ends-within l.from b (length l.heard) (b * n.0))

gathered-whole : (coder : Coder) (l : Listener) (n : ℕ) → l.from + length l.heard < n → gathered n (packets coder l) ≡ packets coder l
gathered-whole coder l n lt =
    let b = payloads_a_packet l.spec in
    gathered-before n 0 (packets coder l) (packets-rise coder l (λ j. nat_lt (b * j) (length l.heard)) 0 0 (length l.heard) (omega arith))
    ∙ all-before n (packets coder l) (λ s i. let le = packets-within coder l s i in omega arith)

-- ---- a member's packets ----

own-ticks : (coder : Coder) (h : Feed) (g : Guest) → is_legal coder h ≡ true → In g (guests coder h) → (k : ℕ)
    → packets_to (member_of g) (sent_to coder k h) ≡ map (λ s. s.packet) (gathered k (packets coder g.listener))
own-ticks coder h g legal i zero = refl
own-ticks coder h g legal i (suc k) =
    let m = member_of g in
    filter-append' (λ p. p.member == m) (sent_to coder k h) (sent coder k h)
    ∙ ap (λ ps. ps ++ packets_to m (sent coder k h)) (own-ticks coder h g legal i k)
    ∙ ap (λ ps. map (λ s. s.packet) (gathered k (packets coder g.listener)) ++ ps) (own-picks coder k g (guests coder h) (members-once coder h legal) i)
    ∙ sym (map-append (λ (s : Sending). s.packet) (gathered k (packets coder g.listener)) (filter (λ s. s.tick == k) (packets coder g.listener)))

-- what is left goes out with the tick that would come next
pub own-packets : (coder : Coder) (h : Feed) (g : Guest) → is_legal coder h ≡ true → Contains (guests coder h) g
    → packets_to (member_of g) (sent_to coder (closes h) h ++ rest coder h) ≡ map (λ s. s.packet) (packets coder g.listener)
own-packets coder h g legal there =
    let i = contains-in (guests coder h) g there in
    own-ticks coder h g legal i (suc (closes h))
    ∙ ap (map (λ s. s.packet)) (gathered-whole coder g.listener (suc (closes h)) (let le = (dated coder h g i).within in omega arith))
