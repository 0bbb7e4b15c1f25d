-- The packets of one listener: which one a tick sends, and what all of them carry.
use Rattle.std.proofs.Common.{◌≡◌, ℕ, zero, suc, ◌+◌, ◌-◌, ◌*◌, ◌/◌, ◌≤◌, ◌<◌, inl, inr, Bool, true, List, [], ◌∷◌, ◌++◌, length, map, take, drop, refl, sym, ◌∙◌, ap, arith}
use Rattle.std.specs.Prelude.{◌==◌, nat_le, nat_lt}
use Rattle.std.specs.List.{filter, flat_map, range_with_len}
use Rattle.std.proofs.Math.Nat.{mul-le-mul_left, mul-le-mul_right}
use Rattle.std.proofs.lemmas.Nat.{div-add-mod', mod_below}
use Rattle.std.proofs.lemmas.Bool.{cases_Bool, cases_order, cases_lt, cases_eq, cond-true, cond-false, eq-eqb, ne_eqb, ltb-true, ltb-false, lt-ltb, le-leb, lt-leb}
use Rattle.std.proofs.lemmas.List.{drop-take, drop-drop, take_all, drop_all, take-append-drop, length-drop}
use Rattle.talk_mix.specs.declared.ticks.Tick.{Tick}
use Rattle.conference_spec.specs.declared.JoinSpec.{JoinSpec}
use Rattle.conference_spec.specs.Coding.{Coder}
use Rattle.conference_spec.specs.Feed.{Listener, hears}
use Rattle.conference_spec.specs.Packets.{Sending, payloads_a_packet, own_payloads, tick_of, packet_with, ith_packet, packets, packets_at}
use Rattle.conference_spec.proofs.Alone.{length-own, own-front}

-- ---- numbers that are picked ----

-- of the sendings of the numbers that pass p, those of tick k
abbrev hits : ℕ → (ℕ → Sending) → (ℕ → Bool) → List ℕ → List Sending
hits k f p is = filter (λ s. s.tick == k) (map f (filter p is))

hits-out : (k : ℕ) (f : ℕ → Sending) (p : ℕ → Bool) (i : ℕ) (is : List ℕ) → (p i ≡ true → (f i).tick ≡ k → ⊥) → hits k f p (i ∷ is) ≡ hits k f p is
hits-out k f p i is none =
    elim (cases_Bool (p i)) [
      | inl t ↦
          ap (λ js. filter (λ s. s.tick == k) (map f js)) (cond-true (p i) (i ∷ filter p is) (filter p is) t)
          ∙ cond-false ((f i).tick == k) (f i ∷ hits k f p is) (hits k f p is) (ne_eqb (f i).tick k (none t))
      | inr t ↦ ap (λ js. filter (λ s. s.tick == k) (map f js)) (cond-false (p i) (i ∷ filter p is) (filter p is) t)
    ]

hits-in : (k : ℕ) (f : ℕ → Sending) (p : ℕ → Bool) (i : ℕ) (is : List ℕ) → p i ≡ true → (f i).tick ≡ k → hits k f p (i ∷ is) ≡ f i ∷ hits k f p is
hits-in k f p i is t e =
    ap (λ js. filter (λ s. s.tick == k) (map f js)) (cond-true (p i) (i ∷ filter p is) (filter p is) t)
    ∙ cond-true ((f i).tick == k) (f i ∷ hits k f p is) (hits k f p is) (eq-eqb (f i).tick k e)

-- none of the numbers hits the tick
none-hit : (k : ℕ) (f : ℕ → Sending) (p : ℕ → Bool) (a m : ℕ) → ((i : ℕ) → a ≤ i → p i ≡ true → (f i).tick ≡ k → ⊥) → hits k f p (range_with_len a m) ≡ []
none-hit k f p a zero none = refl
none-hit k f p a (suc m) none =
    hits-out k f p a (range_with_len (a + 1) m) (none a (omega arith)) ∙ none-hit k f p (a + 1) m (λ i le. none i (omega arith))

-- just one does
one-hit : (k : ℕ) (f : ℕ → Sending) (p : ℕ → Bool) (j a m : ℕ) → a ≤ j → j < a + m → p j ≡ true → (f j).tick ≡ k
    → ((i : ℕ) → p i ≡ true → (f i).tick ≡ k → i ≡ j) → hits k f p (range_with_len a m) ≡ f j ∷ []
one-hit k f p j a zero low high t e only = absurd (omega arith)
one-hit k f p j a (suc m) low high t e only =
    elim (cases_eq a j) [
      | inl same ↦
          hits-in k f p a (range_with_len (a + 1) m) (ap p same ∙ t) (ap (λ i. (f i).tick) same ∙ e)
          ∙ ap (λ ss. f a ∷ ss) (none-hit k f p (a + 1) m (λ i le u v. let at = only i u v in omega arith))
          ∙ ap (λ i. f i ∷ []) same
      | inr other ↦
          let after : a + 1 ≤ j = elim (cases_lt j (a + 1)) [ inl lt ↦ absurd (other (omega arith)) | inr ge ↦ ge ] in
          hits-out k f p a (range_with_len (a + 1) m) (λ u v. other (only a u v)) ∙ one-hit k f p j (a + 1) m after (omega arith) t e only
    ]

-- ---- places of packets ----

pub some-payloads : (spec : JoinSpec) → 0 < payloads_a_packet spec
some-payloads spec =
    elim (cases_eq spec.ticks 0) [
      | inl e ↦ let one = cond-true (spec.ticks == 0) 1 spec.ticks (eq-eqb spec.ticks 0 e) in omega arith
      | inr ne ↦ let all = cond-false (spec.ticks == 0) 1 spec.ticks (ne_eqb spec.ticks 0 ne) in positive spec.ticks (payloads_a_packet spec) all ne
    ]
  where
    positive : (n m : ℕ) → m ≡ n → (n ≡ 0 → ⊥) → 0 < m
    positive zero m e ne = absurd (ne refl)
    positive (suc n) m e ne = omega arith

-- a packet ends before a later one begins
pub chunk-before : (b m i : ℕ) → m < i → b * m + b ≤ b * i
chunk-before b m i lt = let more : m + 1 ≤ i = omega arith in omega (arith, mul-le-mul_left b more)

-- the packet in which the j-th payload is
pub chunk-of : (b j : ℕ) → 0 < b → (b * (j / b) ≤ j) × (j < b * (j / b) + b)
chunk-of b j some = let e = div-add-mod' j b in let lt = mod_below j b some in (omega arith, omega arith)

pub tick-full : (from b n i : ℕ) → b * i + b ≤ n → tick_of from b n i ≡ from + (b * i + b - 1)
tick-full from b n i le = cond-true (nat_le (b * i + b) n) (from + (b * i + b - 1)) (from + n) (le-leb (b * i + b) n le)

pub tick-short : (from b n i : ℕ) → n < b * i + b → tick_of from b n i ≡ from + n
tick-short from b n i lt = cond-false (nat_le (b * i + b) n) (from + (b * i + b - 1)) (from + n) (lt-leb (b * i + b) n lt)

-- no packet is sent before its last tick, and none after what was heard
pub tick-bounds : (from b n i : ℕ) → (from ≤ tick_of from b n i) × (tick_of from b n i ≤ from + n)
tick-bounds from b n i =
    elim (cases_lt n (b * i + b)) [
      | inl lt ↦ let e = tick-short from b n i lt in (omega arith, omega arith)
      | inr le ↦ let e = tick-full from b n i le in (omega arith, omega arith)
    ]

-- a tick that was heard is that of a full packet; the one after all is that of a short packet
hit-full : (from b n i j : ℕ) → 0 < b → j < n → tick_of from b n i ≡ from + j → j + 1 ≡ b * i + b
hit-full from b n i j some lt e =
    elim (cases_lt n (b * i + b)) [
      | inl short ↦ let f = tick-short from b n i short in absurd (omega arith)
      | inr le ↦ let f = tick-full from b n i le in omega arith
    ]

hit-short : (from b n i : ℕ) → 0 < b → tick_of from b n i ≡ from + n → n < b * i + b
hit-short from b n i some e =
    elim (cases_lt n (b * i + b)) [
      | inl short ↦ short
      | inr le ↦ let f = tick-full from b n i le in absurd (omega arith)
    ]

-- later packets are sent later
pub tick-rises : (from b n i j : ℕ) → 0 < b → i < j → b * j < n → tick_of from b n i < tick_of from b n j
tick-rises from b n i j some lt below =
    let before = chunk-before b i j lt in
    let f = tick-full from b n i (omega arith) in
    elim (cases_lt n (b * j + b)) [
      | inl short ↦ let e = tick-short from b n j short in omega arith
      | inr le ↦ let e = tick-full from b n j le in omega arith
    ]

-- two places in one packet
same-chunk : (b i j x : ℕ) → b * i ≤ x → x < b * i + b → b * j ≤ x → x < b * j + b → i ≡ j
same-chunk b i j x one two three four =
    elim (cases_order i j) [
      | inl e ↦ e
      | inr o ↦ elim o [
        | inl lt ↦ let c = chunk-before b i j lt in absurd (omega arith)
        | inr gt ↦ let c = chunk-before b j i gt in absurd (omega arith)
      ]
    ]

-- no more packets than payloads
fewer-chunks : (b i n : ℕ) → 0 < b → b * i < n → i < n
fewer-chunks b i n some lt = let least : 1 ≤ b = omega arith in omega (arith, mul-le-mul_right i least)

-- ---- a listener's packets at a tick ----

abbrev starts : Listener → ℕ → Bool
starts l i = nat_lt (payloads_a_packet l.spec * i) (length l.heard)

pub full-at : (coder : Coder) (l : Listener) (i j : ℕ) → j < length l.heard → j + 1 ≡ payloads_a_packet l.spec * i + payloads_a_packet l.spec
    → packets_at coder (l.from + j) l ≡ packet_with l.spec i (drop (payloads_a_packet l.spec * i) (take (j + 1) (own_payloads coder l))) ∷ []
full-at coder l i j lt e =
    let b = payloads_a_packet l.spec in
    let n = length l.heard in
    let ps = own_payloads coder l in
    let some = some-payloads l.spec in
    ap (map (λ s. s.packet))
    (one-hit (l.from + j) (ith_packet coder l) (starts l) i 0 n (omega arith) (let k = fewer-chunks b i n some (omega arith) in omega arith)
    (lt-ltb (b * i) n (omega arith)) (tick-full l.from b n i (omega arith) ∙ ap (λ x. l.from + x) (omega arith))
    (λ m u v. let h = hit-full l.from b n m j some lt v in same-chunk b m i j (omega arith) (omega arith) (omega arith) (omega arith)))
    ∙ ap (λ qs. packet_with l.spec i qs ∷ []) (sym (drop-take (b * i) b ps) ∙ ap (λ x. drop (b * i) (take x ps)) (sym e))

pub waits-at : (coder : Coder) (l : Listener) (i j : ℕ) → j < length l.heard → payloads_a_packet l.spec * i ≤ j
    → j + 1 < payloads_a_packet l.spec * i + payloads_a_packet l.spec → packets_at coder (l.from + j) l ≡ []
waits-at coder l i j lt low high =
    let b = payloads_a_packet l.spec in
    let n = length l.heard in
    let some = some-payloads l.spec in
    ap (map (λ s. s.packet))
    (none-hit (l.from + j) (ith_packet coder l) (starts l) 0 n
    (λ m le u v.
    let h = hit-full l.from b n m j some lt v in
    let at = same-chunk b m i j (omega arith) (omega arith) low (omega arith) in
    let same : b * m ≡ b * i = ap (λ x. b * x) at in
    omega arith))

pub last-at : (coder : Coder) (l : Listener) (i : ℕ) → payloads_a_packet l.spec * i < length l.heard
    → length l.heard < payloads_a_packet l.spec * i + payloads_a_packet l.spec
    → packets_at coder (l.from + length l.heard) l ≡ packet_with l.spec i (drop (payloads_a_packet l.spec * i) (own_payloads coder l)) ∷ []
last-at coder l i low high =
    let b = payloads_a_packet l.spec in
    let n = length l.heard in
    let ps = own_payloads coder l in
    let some = some-payloads l.spec in
    let long = length-own coder l in
    let left = length-drop (b * i) ps in
    ap (map (λ s. s.packet))
    (one-hit (l.from + n) (ith_packet coder l) (starts l) i 0 n (omega arith) (let k = fewer-chunks b i n some low in omega arith)
    (lt-ltb (b * i) n low) (tick-short l.from b n i high)
    (λ m u v.
    let h = hit-short l.from b n m some v in
    let below = ltb-true (b * m) n u in
    same-chunk b m i n (omega arith) h (omega arith) high))
    ∙ ap (λ qs. packet_with l.spec i qs ∷ []) (take_all b (drop (b * i) ps) (omega arith))

pub none-left-at : (coder : Coder) (l : Listener) (i : ℕ) → length l.heard ≡ payloads_a_packet l.spec * i → packets_at coder (l.from + length l.heard) l ≡ []
none-left-at coder l i e =
    let b = payloads_a_packet l.spec in
    let n = length l.heard in
    let some = some-payloads l.spec in
    ap (map (λ s. s.packet))
    (none-hit (l.from + n) (ith_packet coder l) (starts l) 0 n
    (λ m le u v.
    let h = hit-short l.from b n m some v in
    let below = ltb-true (b * m) n u in
    let at = same-chunk b m i n (omega arith) h (omega arith) (omega arith) in
    let same : b * m ≡ b * i = ap (λ x. b * x) at in
    omega arith))

pub early-at : (coder : Coder) (l : Listener) (k : ℕ) → k < l.from → packets_at coder k l ≡ []
early-at coder l k lt =
    ap (map (λ s. s.packet))
    (none-hit k (ith_packet coder l) (starts l) 0 (length l.heard)
    (λ m le u v. let h = (tick-bounds l.from (payloads_a_packet l.spec) (length l.heard) m).0 in omega arith))

pub late-at : (coder : Coder) (l : Listener) (k : ℕ) → l.from + length l.heard < k → packets_at coder k l ≡ []
late-at coder l k lt =
    ap (map (λ s. s.packet))
    (none-hit k (ith_packet coder l) (starts l) 0 (length l.heard)
    (λ m le u v. let h = (tick-bounds l.from (payloads_a_packet l.spec) (length l.heard) m).1 in omega arith))

-- ---- what all packets carry ----

chunks-whole : (coder : Coder) (l : Listener) (a m : ℕ) → length l.heard ≤ payloads_a_packet l.spec * a + m
    → flat_map (λ s. s.packet.payload) (map (ith_packet coder l) (filter (starts l) (range_with_len a m)))
    ≡ drop (payloads_a_packet l.spec * a) (own_payloads coder l)
chunks-whole coder l a zero le =
    let long = length-own coder l in
    sym (drop_all (payloads_a_packet l.spec * a) (own_payloads coder l) (omega arith))
chunks-whole coder l a (suc m) le =
    let b = payloads_a_packet l.spec in
    let n = length l.heard in
    let ps = own_payloads coder l in
    let some = some-payloads l.spec in
    let is = range_with_len (a + 1) m in
    let long = length-own coder l in
    let next : b * (a + 1) ≡ b * a + b = omega arith in
    let ih = chunks-whole coder l (a + 1) m (omega arith) in
    elim (cases_Bool (starts l a)) [
      | inl t ↦
          ap (λ js. flat_map (λ s. s.packet.payload) (map (ith_packet coder l) js))
          (cond-true (starts l a) (a ∷ filter (starts l) is) (filter (starts l) is) t)
          ∙ ap (λ qs. take b (drop (b * a) ps) ++ qs) (ih ∙ ap (λ x. drop x ps) next ∙ sym (drop-drop b (b * a) ps))
          ∙ take-append-drop b (drop (b * a) ps)
      | inr t ↦
          let past = ltb-false (b * a) n t in
          ap (λ js. flat_map (λ s. s.packet.payload) (map (ith_packet coder l) js))
          (cond-false (starts l a) (a ∷ filter (starts l) is) (filter (starts l) is) t)
          ∙ ih ∙ drop_all (b * (a + 1)) ps (omega arith) ∙ sym (drop_all (b * a) ps (omega arith))
    ]

pub packets-whole : (coder : Coder) (l : Listener) → flat_map (λ s. s.packet.payload) (packets coder l) ≡ own_payloads coder l
packets-whole coder l =
    let none : payloads_a_packet l.spec * 0 ≡ 0 = omega arith in
    chunks-whole coder l 0 (length l.heard) (omega arith) ∙ ap (λ x. drop x (own_payloads coder l)) none

-- ---- one tick more ----

-- the packets of a tick that was heard stay
pub hears-at : (coder : Coder) (tick : Tick) (l : Listener) (k : ℕ) → k < l.from + length l.heard → packets_at coder k (hears tick l) ≡ packets_at coder k l
hears-at coder tick l k lt =
    elim (cases_lt k l.from) [
      | inl before ↦ early-at coder (hears tick l) k before ∙ sym (early-at coder l k before)
      | inr le ↦
          let b = payloads_a_packet l.spec in
          let j = k - l.from in
          let i = j / b in
          let at = chunk-of b j (some-payloads l.spec) in
          let below : j < length l.heard = omega arith in
          let place : l.from + j ≡ k = omega arith in
          ap (λ x. packets_at coder x (hears tick l)) (sym place)
          ∙ elim (cases_lt (j + 1) (b * i + b)) [
            | inl short ↦ waits-at coder (hears tick l) i j (omega arith) at.0 short ∙ sym (waits-at coder l i j below at.0 short)
            | inr enough ↦
                let e : j + 1 ≡ b * i + b = omega (arith, at.1) in
                full-at coder (hears tick l) i j (omega arith) e
                ∙ ap (λ ps. packet_with l.spec i (drop (b * i) ps) ∷ []) (own-front coder tick l (j + 1) (omega arith))
                ∙ sym (full-at coder l i j below e)
          ]
          ∙ ap (λ x. packets_at coder x l) place
    ]
