-- Silence at the three rates above 16 kbit/s.
use Rattle.std.proofs.Common.{◌≡◌, ◌≢◌, ℕ, zero, suc, pos, ◌∷◌, ◌++◌, take, ◌+◌, ◌-◌, ◌^◌, refl, sym, ◌∙◌, ap, replicate, arith}
use Rattle.std.proofs.lemmas.List.{take-replicate, replicate-append-replicate}
use Rattle.g726_bits.specs.declared.Rate.{Rate}
use Rattle.g726_bits.specs.declared.Rate.TheVariants.{R16, R24, R32, R40}
use Rattle.g726_bits.specs.Rates.{bits_of}
use Rattle.g726_bits.specs.State.{start, silent}
use Rattle.g726_bits.specs.Step.{code_of}
use Rattle.g726_bits.specs.Encoder.{stepped, codes_of, after_samples}
use Rattle.g726_bits.proofs.Computed.{silence_codes_24, silence_after_24, silence_code_24, silence_step_24}
use Rattle.g726_bits.proofs.Computed.{silence_codes_32, silence_after_32, silence_code_32, silence_step_32}
use Rattle.g726_bits.proofs.Computed.{silence_codes_40, silence_after_40, silence_code_40, silence_step_40}
use Rattle.g726_bits.proofs.Runs.{after-append, codes-append, codes-take}

-- what the checker computes of a rate
record IsQuiet (rate : Rate) : Type 0 where
  pub first_codes : codes_of rate start (replicate 160 (pos 0)) ≡ replicate 160 (2 ^ bits_of rate - 1)
  pub first_after : after_samples rate start (replicate 160 (pos 0)) ≡ silent
  pub code : code_of rate silent (pos 0) ≡ 2 ^ bits_of rate - 1
  pub step : stepped rate silent (pos 0) ≡ silent

quiet : (rate : Rate) → rate ≢ R16 → IsQuiet rate
quiet R16 above = absurd (above refl)
quiet R24 above = record { first_codes = silence_codes_24; first_after = silence_after_24; code = silence_code_24; step = silence_step_24 }
quiet R32 above = record { first_codes = silence_codes_32; first_after = silence_after_32; code = silence_code_32; step = silence_step_32 }
quiet R40 above = record { first_codes = silence_codes_40; first_after = silence_after_40; code = silence_code_40; step = silence_step_40 }

-- the settled state stays, and gives the one code
stays : (rate : Rate) → IsQuiet rate → (k : ℕ) → after_samples rate silent (replicate k (pos 0)) ≡ silent
unfolding after_samples
stays rate is zero = refl
stays rate is (suc k) = ap (λ s. after_samples rate s (replicate k (pos 0))) is.step ∙ stays rate is k

repeats : (rate : Rate) → IsQuiet rate → (k : ℕ) → codes_of rate silent (replicate k (pos 0)) ≡ replicate k (2 ^ bits_of rate - 1)
unfolding codes_of
repeats rate is zero = refl
repeats rate is (suc k) =
    ap (λ c. c ∷ codes_of rate (stepped rate silent (pos 0)) (replicate k (pos 0))) is.code ∙
    ap (λ cs. (2 ^ bits_of rate - 1) ∷ cs) (ap (λ s. codes_of rate s (replicate k (pos 0))) is.step ∙ repeats rate is k)

pub settled : (rate : Rate) → rate ≢ R16 → (k : ℕ) → after_samples rate start (replicate (160 + k) (pos 0)) ≡ silent
settled rate above k =
    let is = quiet rate above in
    ap (after_samples rate start) (sym (replicate-append-replicate 160 k (pos 0))) ∙
    (after-append rate start (replicate 160 (pos 0)) (replicate k (pos 0)) ∙
    (ap (λ s. after_samples rate s (replicate k (pos 0))) is.first_after ∙ stays rate is k))

longer : (rate : Rate) → IsQuiet rate → (k : ℕ) → codes_of rate start (replicate (160 + k) (pos 0)) ≡ replicate (160 + k) (2 ^ bits_of rate - 1)
longer rate is k =
    let last = 2 ^ bits_of rate - 1 in
    ap (codes_of rate start) (sym (replicate-append-replicate 160 k (pos 0))) ∙
    (codes-append rate start (replicate 160 (pos 0)) (replicate k (pos 0)) ∙
    (ap (λ cs. cs ++ codes_of rate (after_samples rate start (replicate 160 (pos 0))) (replicate k (pos 0))) is.first_codes ∙
    (ap (λ cs. replicate 160 last ++ cs) (ap (λ s. codes_of rate s (replicate k (pos 0))) is.first_after ∙ repeats rate is k) ∙
    replicate-append-replicate 160 k last)))

-- a shorter run is the front of a longer one
pub only_code : (rate : Rate) → rate ≢ R16 → (k : ℕ) → codes_of rate start (replicate k (pos 0)) ≡ replicate k (2 ^ bits_of rate - 1)
only_code rate above k =
    let last = 2 ^ bits_of rate - 1 in
    ap (codes_of rate start) (sym (take-replicate k (160 + k) (pos 0) (omega arith))) ∙
    (codes-take rate start k (replicate (160 + k) (pos 0)) ∙
    (ap (take k) (longer rate (quiet rate above) k) ∙ take-replicate k (160 + k) last (omega arith)))

pub fixed : (rate : Rate) → rate ≢ R16 → stepped rate silent (pos 0) ≡ silent
fixed rate above = let is = quiet rate above in is.step
