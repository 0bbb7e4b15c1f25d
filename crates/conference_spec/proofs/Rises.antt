-- The packets of a listener in the order of their ticks.
use Rattle.std.proofs.Common.{◌≡◌, ℕ, zero, suc, ◌+◌, ◌*◌, ◌≤◌, ◌<◌, inl, inr, Bool, true, List, [], ◌∷◌, ◌++◌, length, map, refl, sym, ◌∙◌, ap, subst, arith}
use Rattle.std.specs.Prelude.{◌==◌, nat_lt}
use Rattle.std.specs.List.{filter, range_with_len}
use Rattle.std.proofs.lemmas.Bool.{cases_order, cond_both, cond-true, cond-false, eq-eqb, ne_eqb, ltb-true, lt-ltb, le-ltb}
use Rattle.conference_spec.specs.Coding.{Coder}
use Rattle.conference_spec.specs.Feed.{Listener}
use Rattle.conference_spec.specs.Packets.{Sending, payloads_a_packet, ith_packet, packets}
use Rattle.conference_spec.proofs.Members.{In, in-map_cases}
use Rattle.conference_spec.proofs.Chunks.{some-payloads, tick-rises, tick-bounds}

-- each is sent later than those before it, and none before tick k
abbrev pub Rises : ℕ → List Sending → Type 0
Rises k [] = Unit {0}
Rises k (s ∷ ss) = (k ≤ s.tick) × Rises (s.tick + 1) ss

pub rises-lower : (j k : ℕ) (ss : List Sending) → j ≤ k → Rises k ss → Rises j ss
rises-lower j k [] le r = tt
rises-lower j k (s ∷ ss) le r = let first = r.0 in (omega arith, r.1)

picked-rise : (f : ℕ → Sending) (p : ℕ → Bool) → ((i j : ℕ) → i < j → p j ≡ true → (f i).tick < (f j).tick) → (k a m : ℕ)
    → ((i : ℕ) → a ≤ i → p i ≡ true → k ≤ (f i).tick) → Rises k (map f (filter p (range_with_len a m)))
picked-rise f p later k a zero least = tt
picked-rise f p later k a (suc m) least =
    let is = range_with_len (a + 1) m in
    let P : List ℕ → Type 0 = λ js. Rises k (map f js) in
    cond_both (p a) (a ∷ filter p is) (filter p is) P
    (λ t. (
      least a (omega arith) t,
      picked-rise f p later ((f a).tick + 1) (a + 1) m (λ i le u. let lt = later a i (omega arith) u in omega arith),
    ))
    (λ t. picked-rise f p later k (a + 1) m (λ i le u. least i (omega arith) u))

-- the packets of a listener rise strictly, from its join on
pub packets-rise : (coder : Coder) (l : Listener) → Rises l.from (packets coder l)
packets-rise coder l =
    let b = payloads_a_packet l.spec in
    let n = length l.heard in
    picked-rise (ith_packet coder l) (λ i. nat_lt (b * i) n)
    (λ i j lt t. tick-rises l.from b n i j (some-payloads l.spec) lt (ltb-true (b * j) n t)) l.from 0 n
    (λ i le t. (tick-bounds l.from b n i).0)

-- and none is sent after the tick that follows the last one that was heard
pub packets-end : (coder : Coder) (l : Listener) (s : Sending) → In s (packets coder l) → s.tick ≤ l.from + length l.heard
packets-end coder l s i =
    let b = payloads_a_packet l.spec in
    let n = length l.heard in
    let m = in-map_cases (ith_packet coder l) s _ i in
    let P : ℕ → Type 0 = λ t. t ≤ l.from + n in
    subst P (ap (λ x. x.tick) m.2) (tick-bounds l.from b n m.0).1

-- each packet is of its listener
pub packets-member : (coder : Coder) (l : Listener) (s : Sending) → In s (packets coder l) → s.packet.member ≡ l.spec.member
packets-member coder l s i =
    let m = in-map_cases (ith_packet coder l) s _ i in
    sym (ap (λ x. x.packet.member) m.2)

-- ---- gathered tick by tick ----

-- those of the first ticks
abbrev pub gathered : ℕ → List Sending → List Sending
gathered zero ss = []
gathered (suc n) ss = gathered n ss ++ filter (λ s. s.tick == n) ss

abbrev below : ℕ → List Sending → List Sending
below n ss = filter (λ s. nat_lt s.tick n) ss

none-below : (n k : ℕ) (ss : List Sending) → n ≤ k → Rises k ss → below n ss ≡ []
none-below n k [] le r = refl
none-below n k (s ∷ ss) le r =
    let first = r.0 in
    cond-false (nat_lt s.tick n) (s ∷ below n ss) (below n ss) (le-ltb s.tick n (omega arith)) ∙ none-below n (s.tick + 1) ss (omega arith) r.1

below-more : (n k : ℕ) (ss : List Sending) → Rises k ss → below n ss ++ filter (λ s. s.tick == n) ss ≡ below (n + 1) ss
below-more n k [] r = refl
below-more n k (s ∷ ss) r =
    let at = filter (λ (x : Sending). x.tick == n) ss in
    let ih = below-more n (s.tick + 1) ss r.1 in
    elim (cases_order s.tick n) [
      | inl e ↦
          let none = none-below n (s.tick + 1) ss (omega arith) r.1 in
          ap (λ xs. xs ++ filter (λ x. x.tick == n) (s ∷ ss))
          (cond-false (nat_lt s.tick n) (s ∷ below n ss) (below n ss) (le-ltb s.tick n (omega arith)) ∙ none)
          ∙ cond-true (s.tick == n) (s ∷ at) at (eq-eqb s.tick n e)
          ∙ ap (λ xs. s ∷ xs) (ap (λ xs. xs ++ at) (sym none) ∙ ih)
          ∙ sym (cond-true (nat_lt s.tick (n + 1)) (s ∷ below (n + 1) ss) (below (n + 1) ss) (lt-ltb s.tick (n + 1) (omega arith)))
      | inr o ↦ elim o [
        | inl lt ↦
            ap (λ xs. xs ++ filter (λ x. x.tick == n) (s ∷ ss)) (cond-true (nat_lt s.tick n) (s ∷ below n ss) (below n ss) (lt-ltb s.tick n lt))
            ∙ ap (λ xs. (s ∷ below n ss) ++ xs) (cond-false (s.tick == n) (s ∷ at) at (ne_eqb s.tick n (λ e. omega arith)))
            ∙ ap (λ xs. s ∷ xs) ih
            ∙ sym (cond-true (nat_lt s.tick (n + 1)) (s ∷ below (n + 1) ss) (below (n + 1) ss) (lt-ltb s.tick (n + 1) (omega arith)))
        | inr gt ↦
            ap (λ xs. xs ++ filter (λ x. x.tick == n) (s ∷ ss)) (cond-false (nat_lt s.tick n) (s ∷ below n ss) (below n ss) (le-ltb s.tick n (omega arith)))
            ∙ ap (λ xs. below n ss ++ xs) (cond-false (s.tick == n) (s ∷ at) at (ne_eqb s.tick n (λ e. omega arith)))
            ∙ ih
            ∙ sym (cond-false (nat_lt s.tick (n + 1)) (s ∷ below (n + 1) ss) (below (n + 1) ss) (le-ltb s.tick (n + 1) (omega arith)))
      ]
    ]

gathered-below : (n k : ℕ) (ss : List Sending) → Rises k ss → gathered n ss ≡ below n ss
gathered-below zero k ss r = sym (none-below 0 0 ss (omega arith) (rises-lower 0 k ss (omega arith) r))
gathered-below (suc n) k ss r =
    ap (λ xs. xs ++ filter (λ s. s.tick == n) ss) (gathered-below n k ss r) ∙ below-more n k ss r ∙ ap (λ m. below m ss) (omega arith)

all-below : (n : ℕ) (ss : List Sending) → ((s : Sending) → In s ss → s.tick < n) → below n ss ≡ ss
all-below n [] h = refl
all-below n (s ∷ ss) h =
    cond-true (nat_lt s.tick n) (s ∷ below n ss) (below n ss) (lt-ltb s.tick n (h s (inl refl))) ∙ ap (λ xs. s ∷ xs) (all-below n ss (λ x i. h x (inr i)))

-- tick by tick, all packets of a listener are there, in their order
pub gathered-all : (coder : Coder) (l : Listener) (n : ℕ) → l.from + length l.heard < n → gathered n (packets coder l) ≡ packets coder l
gathered-all coder l n lt =
    gathered-below n l.from (packets coder l) (packets-rise coder l)
    ∙ all-below n (packets coder l) (λ s i. let e = packets-end coder l s i in omega arith)
