-- An encoder alone, and the payloads of what a listener heard.
use Rattle.std.proofs.Common.{◌≡◌, ℕ, zero, suc, ◌+◌, ◌≤◌, List, [], ◌∷◌, ◌++◌, length, take, refl, sym, ◌∙◌, ap, arith}
use Rattle.std.specs.Prelude.{reverse, ℤ}
use Rattle.std.proofs.lemmas.List.{length-reverse, reverse-append, take_at, take-take, take-append-le}
use Rattle.std.proofs.lemmas.Grind.{reverse_onto}
use Rattle.g726_bits.specs.declared.Rate.{Rate}
use Rattle.g726_bits.specs.State.{CodecState}
use Rattle.talk_mix.specs.declared.ticks.Tick.{Tick}
use Rattle.talk_mix.specs.Mix.{mix}
use Rattle.conference_spec.specs.Coding.{Coder, after, payloads_heard, after_all, payloads_of}
use Rattle.conference_spec.specs.Feed.{Listener, Guest, WasThere, hears}
use Rattle.conference_spec.specs.Packets.{own_payloads}

pub after_all-append : (coder : Coder) (rate : Rate) (s : CodecState) (a c : List (List ℤ))
    → after_all coder rate s (a ++ c) ≡ after_all coder rate (after_all coder rate s a) c
after_all-append coder rate s [] c = refl
after_all-append coder rate s (f ∷ a) c = after_all-append coder rate (coder.encoded rate s f).0 a c

pub payloads_of-append : (coder : Coder) (rate : Rate) (s : CodecState) (a c : List (List ℤ))
    → payloads_of coder rate s (a ++ c) ≡ payloads_of coder rate s a ++ payloads_of coder rate (after_all coder rate s a) c
payloads_of-append coder rate s [] c = refl
payloads_of-append coder rate s (f ∷ a) c = ap (λ ps. (coder.encoded rate s f).1 ∷ ps) (payloads_of-append coder rate (coder.encoded rate s f).0 a c)

pub after-heard : (coder : Coder) (rate : Rate) (s : CodecState) (heard : List (List ℤ)) → after coder rate s heard ≡ after_all coder rate s (reverse heard)
after-heard coder rate s [] = refl
after-heard coder rate s (f ∷ heard) =
    ap (λ t. (coder.encoded rate t f).0) (after-heard coder rate s heard)
    ∙ sym (after_all-append coder rate s (reverse heard) (f ∷ []))
    ∙ sym (ap (after_all coder rate s) (reverse_onto heard f []))

-- one mix more, one payload more
pub payloads-more : (coder : Coder) (rate : Rate) (s : CodecState) (f : List ℤ) (heard : List (List ℤ))
    → payloads_of coder rate s (reverse (f ∷ heard)) ≡ payloads_of coder rate s (reverse heard) ++ (coder.encoded rate (after coder rate s heard) f).1 ∷ []
payloads-more coder rate s f heard =
    ap (payloads_of coder rate s) (reverse_onto heard f [])
    ∙ payloads_of-append coder rate s (reverse heard) (f ∷ [])
    ∙ ap (λ t. payloads_of coder rate s (reverse heard) ++ (coder.encoded rate t f).1 ∷ []) (sym (after-heard coder rate s heard))

pub payloads-heard : (coder : Coder) (rate : Rate) (s : CodecState) (heard : List (List ℤ))
    → reverse (payloads_heard coder rate s heard) ≡ payloads_of coder rate s (reverse heard)
payloads-heard coder rate s [] = refl
payloads-heard coder rate s (f ∷ heard) =
    let new = (coder.encoded rate (after coder rate s heard) f).1 in
    reverse_onto (payloads_heard coder rate s heard) new []
    ∙ ap (λ ps. ps ++ new ∷ []) (payloads-heard coder rate s heard)
    ∙ sym (payloads-more coder rate s f heard)

pub length-payloads_of : (coder : Coder) (rate : Rate) (s : CodecState) (fs : List (List ℤ)) → length (payloads_of coder rate s fs) ≡ length fs
length-payloads_of coder rate s [] = refl
length-payloads_of coder rate s (f ∷ fs) = let ih = length-payloads_of coder rate (coder.encoded rate s f).0 fs in omega arith

-- ---- a listener's own ----

pub length-own : (coder : Coder) (l : Listener) → length (own_payloads coder l) ≡ length l.heard
length-own coder l = length-payloads_of coder l.spec.rate l.first (reverse l.heard) ∙ length-reverse l.heard

pub own-hears : (coder : Coder) (tick : Tick) (l : Listener)
    → own_payloads coder (hears tick l)
    ≡ own_payloads coder l ++ (coder.encoded l.spec.rate (after coder l.spec.rate l.first l.heard) (mix l.spec.member tick)).1 ∷ []
own-hears coder tick l = payloads-more coder l.spec.rate l.first (mix l.spec.member tick) l.heard

-- a tick more leaves what came before
pub own-front : (coder : Coder) (tick : Tick) (l : Listener) (n : ℕ) → n ≤ length l.heard
    → take n (own_payloads coder (hears tick l)) ≡ take n (own_payloads coder l)
own-front coder tick l n le =
    let long = length-own coder l in
    ap (take n) (own-hears coder tick l) ∙ take-append-le n (own_payloads coder l) _ (omega arith)

-- what a guest had heard up to the tick at which it was this listener, and with it
pub heard-then : (tick : Tick) (g : Guest) (l : Listener) → WasThere tick g l
    → take (length l.heard + 1) (reverse g.listener.heard) ≡ reverse (mix l.spec.member tick ∷ l.heard)
heard-then tick g l was =
    let f = mix l.spec.member tick in
    let long = length-reverse (f ∷ l.heard) in
    ap (λ xs. take (length l.heard + 1) (reverse xs)) was.heard
    ∙ ap (take (length l.heard + 1)) (reverse-append was.later (f ∷ l.heard))
    ∙ take_at (reverse (f ∷ l.heard)) (reverse was.later) (length l.heard + 1) (omega arith)

pub heard-before : (tick : Tick) (g : Guest) (l : Listener) → WasThere tick g l → take (length l.heard) (reverse g.listener.heard) ≡ reverse l.heard
heard-before tick g l was =
    let f = mix l.spec.member tick in
    sym (take-take (length l.heard) (length l.heard + 1) (reverse g.listener.heard) (omega arith))
    ∙ ap (take (length l.heard)) (heard-then tick g l was ∙ reverse_onto l.heard f [])
    ∙ take_at (reverse l.heard) (f ∷ []) (length l.heard) (length-reverse l.heard)

-- payloads of the first frames
pub payloads-take : (coder : Coder) (rate : Rate) (s : CodecState) (n : ℕ) (fs : List (List ℤ))
    → take n (payloads_of coder rate s fs) ≡ payloads_of coder rate s (take n fs)
payloads-take coder rate s zero fs = refl
payloads-take coder rate s (suc n) [] = refl
payloads-take coder rate s (suc n) (f ∷ fs) = ap (λ ps. (coder.encoded rate s f).1 ∷ ps) (payloads-take coder rate (coder.encoded rate s f).0 n fs)

-- The payload that an encoder of its own made of a guest's tick is the one of that tick's run, and so is the state after it.
pub own-next : (coder : Coder) (tick : Tick) (g : Guest) (l : Listener) → WasThere tick g l
    → take (length l.heard + 1) (own_payloads coder g.listener)
    ≡ take (length l.heard) (own_payloads coder g.listener)
    ++ (coder.encoded l.spec.rate (after coder l.spec.rate l.first l.heard) (mix l.spec.member tick)).1 ∷ []
own-next coder tick g l was =
    let f = mix l.spec.member tick in
    let n = length l.heard in
    payloads-take coder g.listener.spec.rate g.listener.first (n + 1) (reverse g.listener.heard)
    ∙ ap (λ fs. payloads_of coder g.listener.spec.rate g.listener.first fs) (heard-then tick g l was)
    ∙ ap (λ r. payloads_of coder r g.listener.first (reverse (f ∷ l.heard))) (ap (λ s. s.rate) was.spec)
    ∙ ap (λ s. payloads_of coder l.spec.rate s (reverse (f ∷ l.heard))) was.first
    ∙ payloads-more coder l.spec.rate l.first f l.heard
    ∙ ap (λ ps. ps ++ (coder.encoded l.spec.rate (after coder l.spec.rate l.first l.heard) f).1 ∷ [])
    (sym (payloads-take coder g.listener.spec.rate g.listener.first n (reverse g.listener.heard)
    ∙ ap (λ fs. payloads_of coder g.listener.spec.rate g.listener.first fs) (heard-before tick g l was)
    ∙ ap (λ r. payloads_of coder r g.listener.first (reverse l.heard)) (ap (λ s. s.rate) was.spec)
    ∙ ap (λ s. payloads_of coder l.spec.rate s (reverse l.heard)) was.first))

pub state-next : (coder : Coder) (tick : Tick) (g : Guest) (l : Listener) → WasThere tick g l
    → after_all coder g.listener.spec.rate g.listener.first (take (length l.heard + 1) (reverse g.listener.heard))
    ≡ (coder.encoded l.spec.rate (after coder l.spec.rate l.first l.heard) (mix l.spec.member tick)).0
state-next coder tick g l was =
    let f = mix l.spec.member tick in
    ap (λ fs. after_all coder g.listener.spec.rate g.listener.first fs) (heard-then tick g l was)
    ∙ ap (λ r. after_all coder r g.listener.first (reverse (f ∷ l.heard))) (ap (λ s. s.rate) was.spec)
    ∙ ap (λ s. after_all coder l.spec.rate s (reverse (f ∷ l.heard))) was.first
    ∙ sym (after-heard coder l.spec.rate l.first (f ∷ l.heard))
