-- Runs over lists of samples, and what holds through them.
use Rattle.std.proofs.Common.{◌≡◌, ℕ, zero, suc, ℤ, pos, List, [], ◌∷◌, ◌++◌, length, take, get_or, ◌+◌, ◌<◌, refl, ◌∙◌, ap, arith}
use Rattle.std.proofs.lemmas.Int.{ints}
use Rattle.std.proofs.lemmas.List.{take_more}
use Rattle.g726_bits.specs.declared.Rate.{Rate}
use Rattle.g726_bits.specs.State.{CodecState, predictor_start, scale_start, start}
use Rattle.g726_bits.specs.Step.{code_of, state_after, scale_step, speed_step}
use Rattle.g726_bits.specs.Encoder.{stepped, codes_of, after_samples}
use Rattle.g726_bits.specs.Ranges.{IsSound}
use Rattle.g726_bits.proofs.Magnitudes.{speed_step_le}
use Rattle.g726_bits.proofs.PredictorRanges.{predictor_after_stable}
use Rattle.g726_bits.proofs.ScaleRanges.{scale_after_within}

-- ---- a run of more samples is a run after a run
pub after-append : (rate : Rate) (s : CodecState) (xs ys : List ℤ) → after_samples rate s (xs ++ ys) ≡ after_samples rate (after_samples rate s xs) ys
unfolding after_samples
after-append rate s [] ys = refl
after-append rate s (x ∷ xs) ys = after-append rate (stepped rate s x) xs ys

pub codes-append : (rate : Rate) (s : CodecState) (xs ys : List ℤ) → codes_of rate s (xs ++ ys) ≡ codes_of rate s xs ++ codes_of rate (after_samples rate s xs) ys
unfolding after_samples codes_of
codes-append rate s [] ys = refl
codes-append rate s (x ∷ xs) ys = ap (λ cs. code_of rate s x ∷ cs) (codes-append rate (stepped rate s x) xs ys)

pub length-codes : (rate : Rate) (s : CodecState) (xs : List ℤ) → length (codes_of rate s xs) ≡ length xs
unfolding codes_of
length-codes rate s [] = refl
length-codes rate s (x ∷ xs) = ap suc (length-codes rate (stepped rate s x) xs)

pub codes-take : (rate : Rate) (s : CodecState) (k : ℕ) (xs : List ℤ) → codes_of rate s (take k xs) ≡ take k (codes_of rate s xs)
unfolding codes_of
codes-take rate s zero xs = refl
codes-take rate s (suc k) [] = refl
codes-take rate s (suc k) (x ∷ xs) = ap (λ cs. code_of rate s x ∷ cs) (codes-take rate (stepped rate s x) k xs)

-- ---- the ranges hold through a run
pub state_after_sound : (rate : Rate) (s : CodecState) (code : ℕ) → IsSound s → IsSound (state_after rate s code)
unfolding state_after
state_after_sound rate s code is = record {
  predictor = predictor_after_stable rate s.predictor _ _ _;
  scale = scale_after_within s.scale (scale_step rate code) (speed_step rate code) _ _ is.scale (speed_step_le rate code);
}

pub after_sound : (rate : Rate) (s : CodecState) (xs : List ℤ) → IsSound s → IsSound (after_samples rate s xs)
unfolding after_samples stepped
after_sound rate s [] is = is
after_sound rate s (x ∷ xs) is = after_sound rate (stepped rate s x) xs (state_after_sound rate s (code_of rate s x) is)

pub start_sound : IsSound start
unfolding start predictor_start scale_start
start_sound = record {
  predictor = record {
    second = record { at_least = omega (arith, ints); at_most = omega (arith, ints) };
    first = record { at_least = omega (arith, ints); at_most = omega (arith, ints) };
  };
  scale = record {
    fast = record { at_least = omega (arith, ints); at_most = omega (arith, ints) };
    slow = record { at_least = omega (arith, ints); at_most = omega (arith, ints) };
    speed = record { at_least = omega (arith, ints); at_most = omega (arith, ints) };
    short = record { at_least = omega (arith, ints); at_most = omega (arith, ints) };
    long = record { at_least = omega (arith, ints); at_most = omega (arith, ints) };
  };
}

-- ---- one sample more at the end of a run
pub after-push : (rate : Rate) (s : CodecState) (xs : List ℤ) (i : ℕ) → i < length xs → after_samples rate s (take (i + 1) xs) ≡ stepped rate (after_samples rate s (take i xs)) (get_or xs i (pos 0))
unfolding after_samples
after-push rate s xs i h =
    ap (after_samples rate s) (take_more xs i (pos 0) h) ∙ after-append rate s (take i xs) (get_or xs i (pos 0) ∷ [])

pub codes-push : (rate : Rate) (s : CodecState) (xs : List ℤ) (i : ℕ) → i < length xs → codes_of rate s (take (i + 1) xs) ≡ codes_of rate s (take i xs) ++ code_of rate (after_samples rate s (take i xs)) (get_or xs i (pos 0)) ∷ []
unfolding codes_of
codes-push rate s xs i h =
    ap (codes_of rate s) (take_more xs i (pos 0) h) ∙ codes-append rate s (take i xs) (get_or xs i (pos 0) ∷ [])
