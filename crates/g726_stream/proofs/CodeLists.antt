-- Frames of codes, one by one, and the samples of codes.
use Rattle.std.proofs.Common.{◌≡◌, ◌∙◌, ℕ, suc, ℤ, pos, List, [], ◌∷◌, ◌++◌, length, take, drop, get_or, slice_set, ◌+◌, ◌-◌, ◌*◌, ◌/◌, ◌%◌, ◌<◌, ◌≤◌, refl, sym, ap, arith, append_assoc}
use Rattle.std.specs.List.{flat_map}
use Rattle.std.proofs.lemmas.List.{take_all, take_more, take_more_set, length-set, length-drop, length-take-le, append-nil}
use Rattle.std.proofs.lemmas.List.Concat.{flat_map-append}
use Rattle.g726_bits.specs.declared.Rate.{Rate}
use Rattle.g726_bits.specs.declared.Rate.TheVariants.{R16, R24, R32, R40}
use Rattle.g726_bits.specs.Rates.{bits_of}
use Rattle.g726_bits.specs.State.{CodecState}
use Rattle.g726_bits.specs.Step.{state_after, sample_of}
use Rattle.g726_bits.specs.Packing.{unpacked}
use Rattle.g726_codec.specs.Decoder.{after_codes, samples_of}
use Rattle.g726_codec.proofs.Decoding.{samples_of-append}
use Rattle.g726_stream.specs.Samples.{whole, octets_of}
use Rattle.g726_stream.specs.Streams.{pieces, codes_in}

-- ---- runs of the decoder ----

-- the octets that a decoder in this state gives for codes
pub sounds : Rate → CodecState → List ℕ → List ℕ
sounds rate s cs = flat_map octets_of (samples_of rate s cs)

pub sounds_are : (rate : Rate) (s : CodecState) (cs : List ℕ) →
    sounds rate s cs ≡ flat_map octets_of (samples_of rate s cs)
unfolding sounds
sounds_are rate s cs = refl

pub sounds-append : (rate : Rate) (s : CodecState) (cs ds : List ℕ) →
    sounds rate s (cs ++ ds) ≡ sounds rate s cs ++ sounds rate (after_codes rate s cs) ds
unfolding sounds
sounds-append rate s cs ds = ap (flat_map octets_of) (samples_of-append rate s cs ds)
    ∙ flat_map-append octets_of (samples_of rate s cs) (samples_of rate (after_codes rate s cs) ds)

pub sounds_one : (rate : Rate) (s : CodecState) (c : ℕ) → sounds rate s (c ∷ []) ≡ octets_of (sample_of rate s c)
unfolding sounds samples_of
sounds_one rate s c = append-nil (octets_of (sample_of rate s c))

pub sounds_none : (rate : Rate) (s : CodecState) → sounds rate s [] ≡ []
unfolding sounds samples_of
sounds_none rate s = refl

-- ---- frames ----

one_less : (rate : Rate) (n : ℕ) → 20 * bits_of rate ≤ n →
    n / (20 * bits_of rate) ≡ suc ((n - 20 * bits_of rate) / (20 * bits_of rate))
one_less R16 n h = omega arith
one_less R24 n h = omega arith
one_less R32 n h = omega arith
one_less R40 n h = omega arith

frame_few : (rate : Rate) → 20 * bits_of rate ≤ 100
frame_few R16 = omega arith
frame_few R24 = omega arith
frame_few R32 = omega arith
frame_few R40 = omega arith

-- a frame's part of the room for the longest one
pub piece_long : (rate : Rate) (bits : ℕ) (octets : List ℕ) → bits ≡ bits_of rate → length octets ≡ 100 →
    length (take (20 * bits) octets) ≡ 20 * bits_of rate
piece_long rate bits octets e long =
    rw e (length-take-le (20 * bits_of rate) octets (omega (arith, frame_few rate, long)))

none_whole : (rate : Rate) (n : ℕ) → n < 20 * bits_of rate → n / (20 * bits_of rate) ≡ 0
none_whole R16 n h = omega arith
none_whole R24 n h = omega arith
none_whole R32 n h = omega arith
none_whole R40 n h = omega arith

pub codes-step : (rate : Rate) (octets : List ℕ) → 20 * bits_of rate ≤ length octets →
    codes_in rate octets ≡ unpacked rate (take (20 * bits_of rate) octets) ++ codes_in rate
    (drop (20 * bits_of rate) octets)
unfolding codes_in
codes-step rate octets h =
    let size = 20 * bits_of rate in
    let more : length octets / size ≡ suc (length (drop size octets) / size) =
    one_less rate (length octets) h ∙ ap (λ n. suc (n / size)) (sym (length-drop size octets)) in
    ap (λ k. flat_map (unpacked rate) (pieces k size octets)) more

pub codes-none : (rate : Rate) (octets : List ℕ) → length octets < 20 * bits_of rate → codes_in rate octets ≡ []
unfolding codes_in
codes-none rate octets h =
    ap (λ k. flat_map (unpacked rate) (pieces k (20 * bits_of rate) octets)) (none_whole rate (length octets) h)

-- ---- a frame as it is put down ----

-- after i samples: the octets of these
pub record PutDown (samples : List ℤ) (i : ℕ) (octets : List ℕ) : Type 0 where
  pub octets_are : take (2 * i) octets ≡ flat_map octets_of (take i samples)
  pub long : length octets ≡ 320

pub none_down : (samples : List ℤ) (octets : List ℕ) → length octets ≡ 320 → PutDown samples 0 octets
none_down samples octets long = record { octets_are = refl; long = long }

pub one_down : (samples : List ℤ) (i : ℕ) (octets : List ℕ) (low high : ℕ) (sample : ℤ) →
    PutDown samples i octets → i < length samples → i < 160 → sample ≡ get_or samples i (pos 0) →
    low ≡ whole sample % 256 → high ≡ whole sample / 256 →
    PutDown samples (i + 1) (slice_set (slice_set octets (2 * i) low) (2 * i + 1) high)
one_down samples i octets low high sample is h in_frame sample_is low_is high_is =
    let x = get_or samples i (pos 0) in
    let more : take (i + 1) samples ≡ take i samples ++ x ∷ [] = take_more samples i (pos 0) h in
    let twice : 2 * (i + 1) ≡ 2 * i + 1 + 1 = omega arith in
    let ys : List ℕ = slice_set octets (2 * i) low in
    let long : length ys ≡ 320 = length-set octets (2 * i) low ∙ is.long in
    let first : take (2 * i + 1) ys ≡ take (2 * i) octets ++ low ∷ [] =
    take_more_set octets (2 * i) low (omega (arith, is.long)) in
    let both : take (2 * i + 1 + 1) (slice_set ys (2 * i + 1) high) ≡ take (2 * i + 1) ys ++ high ∷ [] =
    take_more_set ys (2 * i + 1) high (omega (arith, long)) in
    let spelled : low ∷ high ∷ [] ≡ octets_of x = rw (low_is, high_is, sample_is) refl in
    record {
      octets_are = ap (λ n. take n (slice_set ys (2 * i + 1) high)) twice ∙ (both ∙ (ap (λ zs. zs ++ high ∷ []) first ∙
          (append_assoc (take (2 * i) octets) (low ∷ []) (high ∷ []) ∙ (ap (λ zs. zs ++ low ∷ high ∷ []) is.octets_are ∙
          (ap (λ zs. flat_map octets_of (take i samples) ++ zs) (spelled ∙ sym (append-nil (octets_of x))) ∙
          (sym (flat_map-append octets_of (take i samples) (x ∷ [])) ∙ ap (flat_map octets_of) (sym more)))))));
      long = length-set ys (2 * i + 1) high ∙ long;
    }

pub all_down : (samples : List ℤ) (octets : List ℕ) → PutDown samples 160 octets → length samples ≡ 160 →
    octets ≡ flat_map octets_of samples
all_down samples octets is long =
    let all : take 160 samples ≡ samples = take_all 160 samples (omega arith) in
    sym (take_all 320 octets (omega (arith, is.long))) ∙ (is.octets_are ∙ ap (flat_map octets_of) all)
