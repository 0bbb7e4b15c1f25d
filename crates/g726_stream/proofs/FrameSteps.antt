-- What is to come for octets, by their first frame.
use Rattle.std.proofs.Common.{◌≡◌, ◌∙◌, ℕ, zero, suc, List, [], ◌++◌, length, take, drop, min, Option, ◌⊎◌, ⊎_elim, inl, inr, ◌*◌, ◌<◌, ◌≤◌, refl, sym, ap, subst, arith}
use Rattle.std.specs.List.{flat_map}
use Rattle.std.proofs.lemmas.List.{take_all}
use Rattle.edge_io.specs.Told.{GrowsByFront}
use Rattle.g726_bits.specs.declared.Rate.{Rate}
use Rattle.g726_bits.specs.Rates.{bits_of}
use Rattle.g726_bits.specs.State.{CodecState, start}
use Rattle.g726_bits.specs.Encoder.{after_samples}
use Rattle.g726_bits.specs.Packing.{unpacked}
use Rattle.g726_codec.specs.Decoder.{after_codes, samples_of}
use Rattle.g726_stream.specs.Samples.{samples_in, octets_of}
use Rattle.g726_stream.specs.Streams.{frames, payloads, encoded, codes_in, decoded}
use Rattle.g726_stream.proofs.Growing.{front_more}
use Rattle.g726_stream.proofs.FrameLists.{whole_frame}
use Rattle.g726_stream.proofs.CodeLists.{sounds, sounds_are, sounds-append, sounds_none, codes-step, codes-none}

less_or_not : (a b : ℕ) → (a < b) ⊎ (b ≤ a)
less_or_not a zero = inr (omega arith)
less_or_not zero (suc b) = inl (omega arith)
less_or_not (suc a) (suc b) = ⊎_elim (λ h. inl (omega arith)) (λ h. inr (omega arith)) (less_or_not a b)

-- ---- encoding ----

-- the codes of these octets, from this state on
abbrev pub coded : Rate → CodecState → List ℕ → List ℕ
coded rate s octets = payloads rate s (frames (samples_in octets))

pub coded_all : (rate : Rate) (s : CodecState) (octets : List ℕ) → s ≡ start → coded rate s octets ≡ encoded rate octets
unfolding encoded
coded_all rate s octets e = ap (λ t. coded rate t octets) e

pub coded_step : (rate : Rate) (s next : CodecState) (n : ℕ) (buf left : List ℕ) → n ≡ 320 →
    next ≡ after_samples rate s (samples_in (take n buf)) →
    320 ≤ length left → take 320 buf ≡ take 320 left → coded rate s left
    ≡ coded rate s (take n buf) ++ coded rate next (drop 320 left)
coded_step rate s next n buf left n_is next_is h same =
    let piece : take n buf ≡ take 320 left = ap (λ k. take k buf) n_is ∙ same in
    whole_frame rate s left h ∙ rw (next_is, piece) refl

pub coded_front : (rate : Rate) (s : CodecState) (n : ℕ) (buf left : List ℕ) (held after : Option (List ℕ)) →
    GrowsByFront held after (coded rate s (take n buf)) →
    n ≡ min (length left) 320 → take n buf ≡ take n left → GrowsByFront held after (coded rate s left)
coded_front rate s n buf left held after front n_is same =
    ⊎_elim
    (λ few.
    let all : take n buf ≡ left = same ∙ take_all n left (omega arith) in
    subst (λ (octets : List ℕ). GrowsByFront held after (coded rate s octets)) all front)
    (λ many.
    let full : n ≡ 320 = omega arith in
    let piece : take n buf ≡ take 320 left = same ∙ ap (λ k. take k left) full in
    let first : GrowsByFront held after (coded rate s (take 320 left)) =
    subst (λ (octets : List ℕ). GrowsByFront held after (coded rate s octets)) piece front in
    subst (λ (p : List ℕ). GrowsByFront held after p) (sym (whole_frame rate s left many))
    (front_more held after (coded rate s (take 320 left)) _ first))
    (less_or_not (length left) 320)

-- ---- decoding ----

-- the samples of these octets, from this state on
abbrev pub played : Rate → CodecState → List ℕ → List ℕ
played rate s octets = sounds rate s (codes_in rate octets)

pub played_all : (rate : Rate) (s : CodecState) (octets : List ℕ) → s ≡ start →
    played rate s octets ≡ decoded rate octets
unfolding decoded
played_all rate s octets e = ap (λ t. played rate t octets) e ∙ sounds_are rate start (codes_in rate octets)

pub played_step : (rate : Rate) (s next : CodecState) (n : ℕ) (buf left : List ℕ) → n ≡ 20 * bits_of rate →
    length buf ≡ 20 * bits_of rate → next ≡ after_codes rate s (unpacked rate buf) →
    20 * bits_of rate ≤ length left → take (20 * bits_of rate) buf ≡ take (20 * bits_of rate) left →
    played rate s left ≡ flat_map octets_of (samples_of rate s (unpacked rate buf)) ++ played rate next
    (drop (20 * bits_of rate) left)
played_step rate s next n buf left n_is long next_is h same =
    let size = 20 * bits_of rate in
    let piece : buf ≡ take size left = sym (take_all size buf (omega arith)) ∙ same in
    ap (sounds rate s) (codes-step rate left h)
    ∙ sounds-append rate s (unpacked rate (take size left)) (codes_in rate (drop size left))
    ∙ ap (λ p. sounds rate s (unpacked rate p) ++ sounds rate (after_codes rate s (unpacked rate p))
    (codes_in rate (drop size left))) (sym piece)
    ∙ rw (next_is, ← sounds_are rate s (unpacked rate buf)) refl

pub played_front : (rate : Rate) (s : CodecState) (n : ℕ) (buf left : List ℕ) (held after : Option (List ℕ)) →
    GrowsByFront held after (flat_map octets_of (samples_of rate s (unpacked rate buf))) →
    n ≡ 20 * bits_of rate → length buf ≡ 20 * bits_of rate → n ≡ min (length left) (20 * bits_of rate) →
    take n buf ≡ take n left → GrowsByFront held after (played rate s left)
played_front rate s n buf left held after front n_is long few same =
    let size = 20 * bits_of rate in
    let h : size ≤ length left = omega arith in
    let piece : take size buf ≡ take size left = rw n_is at same in
    let whole = played_step rate s (after_codes rate s (unpacked rate buf)) n buf left n_is long refl h piece in
    subst (λ (p : List ℕ). GrowsByFront held after p) (sym whole) (front_more held after _ _ front)

-- where no whole frame is left, nothing is to come
pub played_none : (rate : Rate) (s : CodecState) (left : List ℕ) → length left < 20 * bits_of rate →
    played rate s left ≡ []
played_none rate s left h = ap (sounds rate s) (codes-none rate left h) ∙ sounds_none rate s
