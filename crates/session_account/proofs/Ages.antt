-- How long a guest has listened, and how many packets it was sent.
use Rattle.std.proofs.Common.{◌≡◌, ◌∙◌, ℕ, zero, suc, ◌+◌, ◌-◌, ◌*◌, ◌<◌, ◌≤◌, Bool, true, false, length, refl, sym, ap, subst, arith}
use Rattle.std.specs.Prelude.{nat_lt, unwrap_or, max}
use Rattle.std.specs.List.{filter, range_with_len}
use Rattle.std.specs.Int.{div_ceil}
use Rattle.std.proofs.Math.Nat.{mul-le-mul_right, le-mul_of_pos_right, add-mul, mul_comm}
use Rattle.std.proofs.lemmas.Bool.Decides.{nat_tests}
use Rattle.std.proofs.lemmas.Grind.{div_ceil_times}
use Rattle.std.proofs.lemmas.List.{length-map}
use Rattle.conference_spec.specs.Codec.{g726}
use Rattle.conference_spec.specs.Feed.{Listener, Guest}
use Rattle.conference_spec.specs.Packets.{payloads_a_packet, ith_packet, packets}
use Rattle.session_account.specs.declared.visits.Listener.{Listener as Row}
use Rattle.session_account.specs.declared.visits.Visit.{Visit}
use Rattle.session_account.specs.Listening.{visit_of, listener_of, IsAged}

-- of a range, where just those below q pass
module _ (p : ℕ → Bool) where
  none-pass : (a m q : ℕ) → q ≤ a → ((i : ℕ) → q ≤ i → p i ≡ false) → length (filter p (range_with_len a m)) ≡ 0
  none-pass a zero q le fails = refl
  none-pass a (suc m) q le fails = rw (fails a le) (none-pass (a + 1) m q (omega arith) fails)

  first-pass : (a m r q : ℕ) → a + r ≡ q → r ≤ m → ((i : ℕ) → i < q → p i ≡ true) → ((i : ℕ) → q ≤ i → p i ≡ false)
      → length (filter p (range_with_len a m)) ≡ r
  first-pass a m zero q is le passes fails = none-pass a m q (omega arith) fails
  first-pass a zero (suc r) q is le passes fails = absurd (omega arith)
  first-pass a (suc m) (suc r) q is le passes fails =
      rw (passes a (omega arith)) (ap suc (first-pass (a + 1) m r q (omega arith) (omega arith) passes fails))

-- n ticks, b to a packet, are so many packets
starts : (n b : ℕ) → 0 < b → length (filter (λ i. nat_lt (b * i) n) (range_with_len 0 n)) ≡ div_ceil n b
starts n b pos =
    let q = div_ceil n b in
    let t = div_ceil_times n b pos in
    let over : (n + 1 ≤ q → n * b + b ≤ q * b) = λ h. omega (arith, add-mul n 1 b, mul-le-mul_right b h) in
    first-pass (λ i. nat_lt (b * i) n) 0 n q q (omega arith) (grind (arith, t.0, t.1, over, le-mul_of_pos_right n pos))
    (λ i lt.
    let step : (i + 1) * b ≤ q * b = mul-le-mul_right b (omega arith) in
    let below : b * i < n = omega (arith, t.1, add-mul i 1 b, mul_comm b i) in
    grind (arith, nat_tests))
    (λ i le.
    let step : q * b ≤ i * b = mul-le-mul_right b le in
    let above : n ≤ b * i = omega (arith, t.0, mul_comm b i) in
    grind (arith, nat_tests))

sent-count : (l : Listener) (bundle : ℕ) → bundle ≡ payloads_a_packet l.spec → 0 < bundle
    → length (packets g726 l) ≡ div_ceil (length l.heard) bundle
sent-count l bundle is pos =
    length-map (filter (λ i. nat_lt (payloads_a_packet l.spec * i) (length l.heard)) (range_with_len 0 (length l.heard))) (ith_packet g726 l)
    ∙ ap (λ b. length (filter (λ i. nat_lt (b * i) (length l.heard)) (range_with_len 0 (length l.heard)))) (sym is)
    ∙ starts (length l.heard) bundle pos

-- the least bundle is 1
at-least-one : (l : Listener) → max l.spec.ticks 1 ≡ payloads_a_packet l.spec
at-least-one l = grind (arith, nat_tests)

of-guest : (g : Guest) (closed ticks bundle sent : ℕ) → IsAged g closed → ticks ≡ unwrap_or g.left closed - g.listener.from
    → bundle ≡ max g.listener.spec.ticks 1 → sent ≡ div_ceil ticks bundle
    → ◌≡◌ {A = Row} (record { member = g.listener.spec.member; rate = g.listener.spec.rate; ticks = ticks; packets = sent }) (listener_of g)
of-guest g closed ticks bundle sent aged long is many =
    let e : ticks ≡ length g.listener.heard = omega arith in
    let b : bundle ≡ payloads_a_packet g.listener.spec = is ∙ at-least-one g.listener in
    let pos : 0 < bundle = omega arith in
    let s : sent ≡ length (packets g726 g.listener) = many ∙ ap (λ n. div_ceil n bundle) e ∙ sym (sent-count g.listener bundle b pos) in
    ap (λ n. record { member = g.listener.spec.member; rate = g.listener.spec.rate; ticks = n; packets = sent }) e
    ∙ ap (λ n. record { member = g.listener.spec.member; rate = g.listener.spec.rate; ticks = length g.listener.heard; packets = n }) s

-- what a visit comes to is what its guest heard and was sent
pub listener-is : (v : Visit) (g : Guest) (closed ticks bundle sent : ℕ) → v ≡ visit_of g → IsAged g closed → ticks ≡ unwrap_or v.left closed - v.from
    → bundle ≡ max v.bundle 1 → sent ≡ div_ceil ticks bundle
    → ◌≡◌ {A = Row} (record { member = v.member; rate = v.rate; ticks = ticks; packets = sent }) (listener_of g)
listener-is v g closed ticks bundle sent is aged long most many =
    subst (λ (x : Visit). ticks ≡ unwrap_or x.left closed - x.from → bundle ≡ max x.bundle 1
    → ◌≡◌ {A = Row} (record { member = x.member; rate = x.rate; ticks = ticks; packets = sent }) (listener_of g)) (sym is)
    (λ a b. of-guest g closed ticks bundle sent aged a b many) long most
