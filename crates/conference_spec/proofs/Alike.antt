-- Listeners that no later tick tells apart.
use Rattle.std.proofs.Common.{◌≡◌, ℕ, suc, ◌+◌, ◌-◌, ◌*◌, ◌/◌, ◌≤◌, ◌<◌, inl, inr, Bool, true, false, cond, List, [], ◌∷◌, ◌++◌, length, map, take, drop, refl, sym, ◌∙◌, ap, subst, arith, Option, Some, None}
use Rattle.std.specs.Prelude.{◌==◌, ℤ, nat_lt, nat_le, is_none, unwrap_or}
use Rattle.std.specs.List.{filter, flat_map, range_with_len}
use Rattle.std.proofs.lemmas.Bool.{cases_Bool, cases_lt, cases_eq, cond-true, cond-false, eqb-true, ltb-true, lt-leb, or_cases, false≢true}
use Rattle.std.proofs.Math.Nat.{mul-le-mul_left}
use Rattle.std.proofs.lemmas.List.{drop-drop, drop-append-le, drop_all, append-nil}
use Rattle.g726_bits.specs.declared.Rate.{Rate}
use Rattle.g726_bits.specs.State.{CodecState}
use Rattle.talk_mix.specs.declared.ticks.Tick.{Tick}
use Rattle.talk_mix.specs.Mix.{mix}
use Rattle.conference_spec.specs.declared.JoinSpec.{JoinSpec}
use Rattle.conference_spec.specs.declared.Task.{Task}
use Rattle.conference_spec.specs.Coding.{Coder, after}
use Rattle.conference_spec.specs.Feed.{Feed, Listener, Guest, guests, hears, begins, closes}
use Rattle.conference_spec.specs.Packets.{Sending, payloads_a_packet, own_payloads, tick_of, packet_with, ith_packet, packets_at}
use Rattle.conference_spec.specs.Tasks.{tasks_of, own_task, own_tasks}
use Rattle.conference_spec.specs.Base.{stays_on, stay_of}
use Rattle.conference_spec.proofs.Members.{In}
use Rattle.conference_spec.proofs.Alone.{length-own, own-hears}
use Rattle.conference_spec.proofs.Chunks.{some-payloads, chunk-before, chunk-of, tick-full, tick-short, last-at, none-left-at, late-at}
use Rattle.conference_spec.proofs.Sends.{dated}
use Rattle.conference_spec.proofs.Steps.{filter-none}

-- a task of tick m or of a later one
abbrev pub late : ℕ → Task → Bool
late m x = nat_le m x.tick

-- how many of a listener's payloads go out before tick m
abbrev pub gone_out : ℕ → Listener → ℕ
gone_out m l = payloads_a_packet l.spec * ((m - l.from) / payloads_a_packet l.spec)

-- two listeners that no tick from the m-th on tells apart: seen as one, with the same payloads to be sent and the same tasks
pub record AreLike (coder : Coder) (m : ℕ) (l k : Listener) : Type 0 where
  pub spec : l.spec ≡ k.spec
  pub from : l.from ≡ k.from
  pub ticks : length l.heard ≡ length k.heard
  pub state : after coder l.spec.rate l.first l.heard ≡ after coder k.spec.rate k.first k.heard
  pub old : m ≤ l.from + length l.heard
  pub payloads : drop (gone_out m l) (own_payloads coder l) ≡ drop (gone_out m k) (own_payloads coder k)
  pub tasks : filter (late m) (tasks_of coder l) ≡ filter (late m) (tasks_of coder k)

pub begins-like : (coder : Coder) (m : ℕ) (spec : JoinSpec) (c d : ℕ) → c ≡ d → m ≤ c → AreLike coder m (begins coder spec c) (begins coder spec d)
begins-like coder m spec c d e le = record {
  spec = refl;
  from = e;
  ticks = refl;
  state = refl;
  old = omega arith;
  payloads = ap (λ x. drop (payloads_a_packet spec * ((m - x) / payloads_a_packet spec)) (own_payloads coder (begins coder spec x))) e;
  tasks = refl;
}

less-gone_out : (coder : Coder) (m : ℕ) (l : Listener) → m ≤ l.from + length l.heard → gone_out m l ≤ length (own_payloads coder l)
less-gone_out coder m l old =
    let at = chunk-of (payloads_a_packet l.spec) (m - l.from) (some-payloads l.spec) in
    let long = length-own coder l in
    omega (arith, at.0)

pub hears-like : (coder : Coder) (m : ℕ) (tick : Tick) (l k : Listener) → AreLike coder m l k → AreLike coder m (hears tick l) (hears tick k)
hears-like coder m tick l k z =
    let n = gone_out m l in
    let j = gone_out m k in
    let made = λ (x : Listener). (coder.encoded x.spec.rate (after coder x.spec.rate x.first x.heard) (mix x.spec.member tick)).1 in
    let one : made l ≡ made k = λ i. (coder.encoded (z.spec i).rate (z.state i) (mix (z.spec i).member tick)).1 in
    let task : own_task coder l.from l.spec.rate l.first l.heard (mix l.spec.member tick)
    ≡ own_task coder k.from k.spec.rate k.first k.heard (mix k.spec.member tick) =
    λ i. record {
      tick = z.from i + z.ticks i;
      triple = record { rate = (z.spec i).rate; state = z.state i; mix = mix (z.spec i).member tick };
    } in
    let grown = λ (x : Listener) (old : m ≤ x.from + length x.heard).
    ap (drop (gone_out m x)) (own-hears coder tick x)
    ∙ drop-append-le (gone_out m x) (own_payloads coder x) (made x ∷ []) (less-gone_out coder m x old) in
    let old : m ≤ k.from + length k.heard = subst (λ x. m ≤ x) (λ i. z.from i + z.ticks i) z.old in
    record {
      spec = z.spec;
      from = z.from;
      ticks = λ i. suc (z.ticks i);
      state = λ i. (coder.encoded (z.spec i).rate (z.state i) (mix (z.spec i).member tick)).0;
      old = let o = z.old in omega arith;
      payloads = grown l z.old ∙ (λ i. z.payloads i ++ one i ∷ []) ∙ sym (grown k old);
      tasks = λ i. cond (late m (task i)) (task i ∷ z.tasks i) (z.tasks i);
    }

-- ---- the packets of later ticks ----

picked-same : (k : ℕ) (f g : ℕ → Sending) (is : List ℕ) → ((i : ℕ) → (f i).tick ≡ (g i).tick)
    → ((i : ℕ) → In i is → (f i).tick ≡ k → (f i).packet ≡ (g i).packet)
    → map (λ s. s.packet) (filter (λ s. s.tick == k) (map f is)) ≡ map (λ s. s.packet) (filter (λ s. s.tick == k) (map g is))
picked-same k f g [] ticks same = refl
picked-same k f g (i ∷ is) ticks same =
    let at = λ (h : ℕ → Sending). filter (λ s. s.tick == k) (map h is) in
    let ih = picked-same k f g is ticks (λ x j. same x (inr j)) in
    elim (cases_Bool ((f i).tick == k)) [
      | inl t ↦
          ap (map (λ s. s.packet)) (cond-true ((f i).tick == k) (f i ∷ at f) (at f) t)
          ∙ (λ j. same i (inl refl) (eqb-true (f i).tick k t) j ∷ ih j)
          ∙ sym (ap (map (λ s. s.packet)) (cond-true ((g i).tick == k) (g i ∷ at g) (at g) (ap (λ x. x == k) (sym (ticks i)) ∙ t)))
      | inr t ↦
          ap (map (λ s. s.packet)) (cond-false ((f i).tick == k) (f i ∷ at f) (at f) t)
          ∙ ih
          ∙ sym (ap (map (λ s. s.packet)) (cond-false ((g i).tick == k) (g i ∷ at g) (at g) (ap (λ x. x == k) (sym (ticks i)) ∙ t)))
    ]

-- a packet that isn't sent before tick m has none of the payloads that are
sent-late : (from b n i m k : ℕ) → 0 < b → m ≤ from + n → m ≤ k → tick_of from b n i ≡ k → b * ((m - from) / b) ≤ b * i
sent-late from b n i m k some old le e =
    let c = m - from in
    let at = chunk-of b c some in
    elim (cases_lt i (c / b)) [
      | inl lt ↦
          let before = chunk-before b i (c / b) lt in
          elim (cases_lt n (b * i + b)) [
            | inl short ↦ let f = tick-short from b n i short in absurd (omega (arith, at.0))
            | inr full ↦ let f = tick-full from b n i full in absurd (omega (arith, at.0))
          ]
      | inr ge ↦ mul-le-mul_left b ge
    ]

pub packets-like : (coder : Coder) (m : ℕ) (l k : Listener) → AreLike coder m l k → (t : ℕ) → m ≤ t → packets_at coder t l ≡ packets_at coder t k
packets-like coder m l k z t le =
    let b = payloads_a_packet l.spec in
    let n = length l.heard in
    picked-same t (ith_packet coder l) (ith_packet coder k) (filter (λ i. nat_lt (b * i) n) (range_with_len 0 n))
    (λ i j. tick_of (z.from j) (payloads_a_packet (z.spec j)) (z.ticks j) i)
    (λ i there at.
    let past = sent-late l.from b n i m t (some-payloads l.spec) z.old le at in
    let more : ℕ = b * i - gone_out m l in
    let sum : gone_out m l + more ≡ b * i = omega arith in
    let same_out : gone_out m l ≡ gone_out m k = λ j. payloads_a_packet (z.spec j) * ((m - z.from j) / payloads_a_packet (z.spec j)) in
    let rest : drop (b * i) (own_payloads coder l) ≡ drop (b * i) (own_payloads coder k) =
    ap (λ x. drop x (own_payloads coder l)) (sym sum) ∙ sym (drop-drop more (gone_out m l) (own_payloads coder l))
    ∙ ap (drop more) z.payloads
    ∙ drop-drop more (gone_out m k) (own_payloads coder k) ∙ ap (λ x. drop (x + more) (own_payloads coder k)) (sym same_out)
    ∙ ap (λ x. drop x (own_payloads coder k)) sum in
    ap (λ ps. packet_with l.spec i (take b ps)) rest
    ∙ (λ j. packet_with (z.spec j) i (take (payloads_a_packet (z.spec j)) (drop (payloads_a_packet (z.spec j) * i) (own_payloads coder k)))))
    ∙ (λ j. map (λ s. s.packet) (filter (λ s. s.tick == t)
    (map (ith_packet coder k) (filter (λ i. nat_lt (payloads_a_packet (z.spec j) * i) (z.ticks j)) (range_with_len 0 (z.ticks j))))))

-- ---- listeners of which a base says the same ----

-- what is left after all ticks, which the tick after them sends
pub pending-is : (coder : Coder) (l : Listener)
    → flat_map (λ p. p.payload) (packets_at coder (l.from + length l.heard) l)
    ≡ drop (payloads_a_packet l.spec * (length l.heard / payloads_a_packet l.spec)) (own_payloads coder l)
pending-is coder l =
    let b = payloads_a_packet l.spec in
    let n = length l.heard in
    let i = n / b in
    let at = chunk-of b n (some-payloads l.spec) in
    let long = length-own coder l in
    elim (cases_eq n (b * i)) [
      | inl e ↦ ap (flat_map (λ p. p.payload)) (none-left-at coder l i e) ∙ sym (drop_all (b * i) (own_payloads coder l) (omega arith))
      | inr ne ↦
          ap (flat_map (λ p. p.payload)) (last-at coder l i (let low = at.0 in omega arith) at.1)
          ∙ append-nil (drop (b * i) (own_payloads coder l))
    ]

-- a listener's tasks lie at the ticks that it heard
own-early : (coder : Coder) (from : ℕ) (rate : Rate) (first : CodecState) (heard : List (List ℤ)) (x : Task) → In x (own_tasks coder from rate first heard)
    → x.tick < from + length heard
own-early coder from rate first [] x i = absurd i
own-early coder from rate first (f ∷ heard) x (inl e) = let at : from + length heard ≡ x.tick = ap (λ y. y.tick) e in omega arith
own-early coder from rate first (f ∷ heard) x (inr i) = let ih = own-early coder from rate first heard x i in omega arith

pub none-late : (coder : Coder) (l : Listener) (m : ℕ) → l.from + length l.heard ≤ m → filter (late m) (tasks_of coder l) ≡ []
none-late coder l m le =
    filter-none (late m) (tasks_of coder l)
    (λ x i. let lt = own-early coder l.from l.spec.rate l.first l.heard x i in lt-leb m x.tick (omega arith))

pub same-left : (a b : Option ℕ) → is_none a ≡ is_none b → (is_none a ≡ false → unwrap_or a 0 ≡ unwrap_or b 0) → a ≡ b
same-left None None n e = refl
same-left None (Some y) n e = absurd (false≢true (sym n))
same-left (Some x) None n e = absurd (false≢true n)
same-left (Some x) (Some y) n e = ap Some (e refl)

-- two guests that no tick from the m-th on tells apart
abbrev pub AreGuests : Coder → ℕ → Guest → Guest → Type 0
AreGuests coder m g k = (g.left ≡ k.left) × AreLike coder m g.listener k.listener

-- whoever stays on at the last close has heard all ticks
pub stays-old : (coder : Coder) (h : Feed) (g : Guest) → In g (guests coder h) → stays_on coder (closes h) g ≡ true
    → g.listener.from + length g.listener.heard ≡ closes h
stays-old coder h g i t =
    let d = dated coder h g i in
    let most = d.within in
    let l = g.listener in
    elim (or_cases (is_none g.left) (nat_lt 0 (length (packets_at coder (closes h) l))) t) [
      | inl here ↦ d.here here
      | inr owed ↦
          elim (cases_lt (l.from + length l.heard) (closes h)) [
            | inl lt ↦
                let none : length (packets_at coder (closes h) l) ≡ 0 = ap length (late-at coder l (closes h) lt) in
                let some = ltb-true 0 (length (packets_at coder (closes h) l)) owed in
                absurd (omega arith)
            | inr ge ↦ omega arith
          ]
    ]

pub stays-like : (coder : Coder) (p q : Feed) → closes p ≡ closes q → (g k : Guest) → In g (guests coder p) → In k (guests coder q)
    → stays_on coder (closes p) g ≡ true → stays_on coder (closes q) k ≡ true → stay_of coder (closes p) g ≡ stay_of coder (closes q) k
    → AreGuests coder (closes p) g k
stays-like coder p q same g k i j t u e =
    let m = closes p in
    let l = g.listener in
    let n = k.listener in
    let gd = dated coder p g i in
    let kd = dated coder q k j in
    let gold = stays-old coder p g i t in
    let kold = stays-old coder q k j u in
    let from : l.from ≡ n.from = ap (λ s. s.from) e in
    let here : is_none g.left ≡ is_none k.left = ap (λ s. s.is_here) e in
    let pending : (x : Listener) (c : ℕ) → x.from + length x.heard ≡ c
    → flat_map (λ p. p.payload) (packets_at coder c x) ≡ drop (payloads_a_packet x.spec * ((c - x.from) / payloads_a_packet x.spec)) (own_payloads coder x) =
    λ x c at.
    let count : length x.heard ≡ c - x.from = omega arith in
    ap (λ y. flat_map (λ p. p.payload) (packets_at coder y x)) (sym at) ∙ pending-is coder x
    ∙ ap (λ y. drop (payloads_a_packet x.spec * (y / payloads_a_packet x.spec)) (own_payloads coder x)) count in (
      same-left g.left k.left here (λ gone. gd.gone gone ∙ gold ∙ same ∙ sym kold ∙ sym (kd.gone (sym here ∙ gone))),
      record {
        spec = ap (λ s. s.spec) e;
        from = from;
        ticks = ap (λ s. s.ticks) e;
        state = ap (λ s. s.state) e;
        old = omega arith;
        payloads = sym (pending l m gold) ∙ ap (λ s. s.pending) e ∙ pending n (closes q) kold
            ∙ ap (λ c. drop (payloads_a_packet n.spec * ((c - n.from) / payloads_a_packet n.spec)) (own_payloads coder n)) (sym same);
        tasks = none-late coder l m (omega arith) ∙ sym (none-late coder n m (omega arith));
      },
    )
