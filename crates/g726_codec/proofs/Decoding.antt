-- A frame of the decoder: runs over codes, and what holds through them.
use Rattle.std.proofs.Common.{◌≡◌, ℕ, ℤ, pos, negsuc, List, [], ◌∷◌, ◌++◌, length, take, get_or, slice_set, ◌+◌, ◌<◌, refl, sym, ◌∙◌, ap, arith}
use Rattle.std.specs.List.{All}
use Rattle.std.proofs.lemmas.Int.{ints}
use Rattle.std.proofs.lemmas.List.{take_all, take_more, take_more_set, length-set}
use Rattle.std.proofs.lemmas.List.Elements.{All-nil, All-cons}
use Rattle.g726_bits.specs.declared.Rate.{Rate}
use Rattle.g726_bits.specs.State.{CodecState}
use Rattle.g726_bits.specs.Ranges.{IsSample, IsSound}
use Rattle.g726_bits.specs.Step.{state_after, sample_of}
use Rattle.g726_bits.proofs.ScaleRanges.{limited_within}
use Rattle.g726_bits.proofs.Runs.{state_after_sound}
use Rattle.g726_codec.specs.Decoder.{after_codes, samples_of}

pub after_codes-append : (rate : Rate) (s : CodecState) (cs ds : List ℕ) →
    after_codes rate s (cs ++ ds) ≡ after_codes rate (after_codes rate s cs) ds
unfolding after_codes
after_codes-append rate s [] ds = refl
after_codes-append rate s (c ∷ cs) ds = after_codes-append rate (state_after rate s c) cs ds

pub samples_of-append : (rate : Rate) (s : CodecState) (cs ds : List ℕ) →
    samples_of rate s (cs ++ ds) ≡ samples_of rate s cs ++ samples_of rate (after_codes rate s cs) ds
unfolding samples_of after_codes
samples_of-append rate s [] ds = refl
samples_of-append rate s (c ∷ cs) ds =
    ap (λ xs. sample_of rate s c ∷ xs) (samples_of-append rate (state_after rate s c) cs ds)

-- the ranges hold through a run, and each sample is one of 14 bits
pub after_codes_sound : (rate : Rate) (s : CodecState) (cs : List ℕ) → IsSound s → IsSound (after_codes rate s cs)
unfolding after_codes
after_codes_sound rate s [] is = is
after_codes_sound rate s (c ∷ cs) is = after_codes_sound rate (state_after rate s c) cs (state_after_sound rate s c is)

sample_within : (rate : Rate) (s : CodecState) (code : ℕ) → IsSample (sample_of rate s code)
unfolding sample_of
sample_within rate s code = limited_within (negsuc 8191) (pos 8191) _ (omega (arith, ints))

pub samples_within : (rate : Rate) (s : CodecState) (cs : List ℕ) → All IsSample (samples_of rate s cs)
unfolding samples_of
samples_within rate s [] = All-nil IsSample
samples_within rate s (c ∷ cs) =
    All-cons IsSample (sample_of rate s c) (samples_of rate (state_after rate s c) cs) (sample_within rate s c) (samples_within rate (state_after rate s c) cs)

-- after i codes: the state, and the samples of these
pub record Heard (rate : Rate) (before : CodecState) (codes : List ℕ) (i : ℕ) (state : CodecState) (samples : List ℤ) : Type 0 where
  pub state_is : state ≡ after_codes rate before (take i codes)
  pub samples_are : take i samples ≡ samples_of rate before (take i codes)
  pub long : length samples ≡ 160

pub none_heard : (rate : Rate) (before state : CodecState) (codes : List ℕ) (samples : List ℤ) → state ≡ before → length samples ≡ 160 → Heard rate before codes 0 state samples
unfolding after_codes samples_of
none_heard rate before state codes samples e long = record { state_is = e; samples_are = refl; long = long }

pub one_heard : (rate : Rate) (before : CodecState) (codes : List ℕ) (i : ℕ) (state next : CodecState) (samples : List ℤ) (sample : ℤ) →
    Heard rate before codes i state samples → i < length codes → i < 160 →
    next ≡ state_after rate state (get_or codes i 0) → sample ≡ sample_of rate state (get_or codes i 0) →
    Heard rate before codes (i + 1) next (slice_set samples i sample)
unfolding after_codes samples_of
one_heard rate before codes i state next samples sample is h in_frame e f =
    let c = get_or codes i 0 in
    let more : take (i + 1) codes ≡ take i codes ++ c ∷ [] = take_more codes i 0 h in
    record {
      state_is = e ∙ (ap (λ s. state_after rate s c) is.state_is ∙
          (sym (after_codes-append rate before (take i codes) (c ∷ [])) ∙ ap (after_codes rate before) (sym more)));
      samples_are =
          take_more_set samples i sample (omega (arith, is.long)) ∙
          (ap (λ xs. xs ++ sample ∷ []) is.samples_are ∙
          (ap (λ x. samples_of rate before (take i codes) ++ x ∷ []) (f ∙ ap (λ s. sample_of rate s c) is.state_is) ∙
          (sym (samples_of-append rate before (take i codes) (c ∷ [])) ∙ ap (samples_of rate before) (sym more))));
      long = length-set samples i sample ∙ is.long;
    }

pub all_heard : (rate : Rate) (before : CodecState) (codes : List ℕ) (state : CodecState) (samples : List ℤ) → Heard rate before codes 160 state samples → length codes ≡ 160 →
    (state ≡ after_codes rate before codes) × (samples ≡ samples_of rate before codes)
all_heard rate before codes state samples is long =
    let all : take 160 codes ≡ codes = take_all 160 codes (omega arith) in (
      is.state_is ∙ ap (after_codes rate before) all,
      sym (take_all 160 samples (omega (arith, is.long))) ∙ (is.samples_are ∙ ap (samples_of rate before) all),
    )
