-- A conference that nobody has left and whose packets carry one tick each: a tick has a packet for each listener.
use Rattle.std.proofs.Common.{◌≡◌, ℕ, ◌+◌, ◌*◌, inl, inr, true, false, cond, List, [], ◌∷◌, ◌++◌, length, map, refl, sym, ◌∙◌, ap, subst, arith, length-append, suc}
use Rattle.std.specs.Prelude.{◌==◌, Option, Some, None, is_none}
use Rattle.std.specs.List.{filter, flat_map}
use Rattle.std.proofs.lemmas.Bool.{cond-true, cond-false}
use Rattle.talk_mix.specs.declared.ticks.Tick.{Tick}
use Rattle.conference_spec.specs.declared.Entry.TheVariants.{Join, Leave, Close, Collect, Cut, End}
use Rattle.conference_spec.specs.declared.JoinSpec.{JoinSpec}
use Rattle.conference_spec.specs.declared.Packet.{Packet}
use Rattle.conference_spec.specs.Codec.{g726}
use Rattle.conference_spec.specs.Feed.{Feed, Guest, guests, stays, listeners, begins, hears, closes}
use Rattle.conference_spec.specs.Packets.{packets_at, payloads_a_packet, sent}
use Rattle.conference_spec.proofs.Members.{In, in-append_cases, in-map_cases}
use Rattle.conference_spec.proofs.Events.{length-map}
use Rattle.conference_spec.proofs.Sends.{Dated, dated, listeners-present}
use Rattle.conference_spec.proofs.Chunks.{full-at}
use Rattle.bench_book.specs.Ticks.{IsCrowd}

-- it is present, and its packets carry one tick
pub record IsOne (g : Guest) : Type 0 where
  pub here : is_none g.left ≡ true
  pub one : g.listener.spec.ticks ≡ 1

pub one-guest : (h : Feed) → IsCrowd h → (g : Guest) → In g (guests g726 h) → IsOne g
one-guest [] c g i = absurd i
one-guest (Join spec ∷ h) c g i =
    elim (in-append_cases g (guests g726 h) (record { listener = begins g726 spec (closes h); left = None } ∷ []) i) [
      | inl a ↦ one-guest h c.1 g a
      | inr b ↦ elim b [ inl e ↦ subst IsOne e (record { here = refl; one = c.0 }) | inr z ↦ absurd z ]
    ]
one-guest (Leave m ∷ h) c g i = absurd c
one-guest (Close tick ∷ h) c g i =
    let s = in-map_cases (stays tick) g (guests g726 h) i in
    let o = one-guest h c s.0 s.1 in
    let stayed : Guest = record { listener = hears tick s.0.listener; left = None } in
    subst IsOne (sym (cond-true (is_none s.0.left) stayed s.0 o.here) ∙ s.2) (record { here = refl; one = o.one })
one-guest (Collect ∷ h) c g i = one-guest h c g i
one-guest (Cut ∷ h) c g i = one-guest h c g i
one-guest (End ∷ h) c g i = one-guest h c g i

-- at a close a guest is sent one packet
one-packet : (h : Feed) (tick : Tick) (g : Guest) → Dated h g → IsOne g → length (packets_at g726 (closes h) (stays tick g).listener) ≡ 1
one-packet h tick g d o =
    let l = g.listener in
    let l' = hears tick l in
    let b : payloads_a_packet l.spec ≡ 1 = ap (λ (n : ℕ). cond (n == 0) 1 n) o.one in
    let n = length l.heard in
    let at : l.from + n ≡ closes h = d.here o.here in
    let full : n + 1 ≡ payloads_a_packet l.spec * n + payloads_a_packet l.spec = (let e : 1 * n + 1 ≡ n + 1 = omega arith in sym e ∙ ap (λ (k : ℕ). k * n + k) (sym b)) in
    let stayed : Guest = record { listener = l'; left = None } in
    ap (λ (w : Guest). length (packets_at g726 (closes h) w.listener)) (cond-true (is_none g.left) stayed g o.here)
    ∙ ap (λ (k : ℕ). length (packets_at g726 k l')) (sym at)
    ∙ ap length (full-at g726 l' n n (omega arith) full)

flat-ones : (f : Guest → List Packet) (go : Guest → Guest) (gs : List Guest) → ((g : Guest) → In g gs → length (f (go g)) ≡ 1)
    → length (flat_map f (map go gs)) ≡ length gs
flat-ones f go [] one = refl
flat-ones f go (g ∷ gs) one =
    let e = length-append (f (go g)) (flat_map f (map go gs)) in
    let ih = flat-ones f go gs (λ x i. one x (inr i)) in
    let here = one g (inl refl) in
    omega arith

all-here : (gs : List Guest) → ((g : Guest) → In g gs → IsOne g) → filter (λ (g : Guest). is_none g.left) gs ≡ gs
all-here [] one = refl
all-here (g ∷ gs) one =
    let p = λ (g : Guest). is_none g.left in
    cond-true (p g) (g ∷ filter p gs) (filter p gs) (one g (inl refl)).here ∙ ap (λ (xs : List Guest). g ∷ xs) (all-here gs (λ x i. one x (inr i)))

-- a tick that is closed now has a packet for each listener
pub sent-newest : (tick : Tick) (h : Feed) (k : ℕ) → k ≡ closes h → IsCrowd h → length (sent g726 k (Close tick ∷ h)) ≡ length (listeners g726 h)
sent-newest tick h k e c =
    let gs = guests g726 h in
    let one = one-guest h c in
    ap (λ (n : ℕ). length (sent g726 n (Close tick ∷ h))) e
    ∙ (flat-ones (λ g. packets_at g726 (closes h) g.listener) (stays tick) gs (λ g i. one-packet h tick g (dated g726 h g i) (one g i))
    ∙ sym (ap length (listeners-present g726 h) ∙ (length-map (λ (g : Guest). g.listener) (filter (λ (g : Guest). is_none g.left) gs) ∙ ap length (all-here gs one))))
