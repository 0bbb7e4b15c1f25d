-- A decoder over places, step by step.
use Rattle.std.proofs.Common.{zero, suc, ◌≡◌, ℕ, ℤ, pos, List, [], ◌∷◌, ◌++◌, map, refl, ap}
use Rattle.std.specs.Prelude.{replicate}
use Rattle.g726_bits.specs.declared.Rate.{Rate}
use Rattle.g726_bits.specs.State.{CodecState, start}
use Rattle.g726_bits.specs.Step.{state_after, sample_of}
use Rattle.g726_bits.specs.Encoder.{stepped, codes_of, after_samples}
use Rattle.g726_codec.specs.Decoder.{after_codes, samples_of}
use Rattle.jitter_line.specs.Histories.{Packet, Puts, History, Restarts, fate_of, gauge}
use Rattle.talk_726.specs.Decoding.{place_of, state_past, samples_for, decoder, unless_restarted}

pub tracks : (rate : Rate) (s : CodecState) (xs : List ℤ) → state_past rate s (map place_of (codes_of rate s xs)) ≡ after_samples rate s xs
unfolding state_past codes_of after_samples stepped
tracks rate s [] = refl
tracks rate s (x ∷ xs) = tracks rate (stepped rate s x) xs

pub says : (rate : Rate) (s : CodecState) (codes : List ℕ) → samples_for rate s (map place_of codes) ≡ samples_of rate s codes
unfolding samples_for samples_of
says rate s [] = refl
says rate s (c ∷ cs) = ap (λ xs. sample_of rate s c ∷ xs) (says rate (state_after rate s c) cs)

pub passes-gap : (rate : Rate) (s : CodecState) (n : ℕ) (xs : List ℤ) → state_past rate s (replicate n (pos 0) ++ xs) ≡ state_past rate s xs
unfolding state_past
passes-gap rate s zero xs = refl
passes-gap rate s (suc n) xs = passes-gap rate s n xs

pub silent-gap : (rate : Rate) (s : CodecState) (n : ℕ) (xs : List ℤ) → samples_for rate s (replicate n (pos 0) ++ xs) ≡ replicate n (pos 0) ++ samples_for rate s xs
unfolding samples_for
silent-gap rate s zero xs = refl
silent-gap rate s (suc n) xs = ap (λ ys. pos 0 ∷ ys) (silent-gap rate s n xs)

pub restarts : (rate : Rate) (h : History) (p : Packet) → fate_of (gauge h) p ≡ Restarts → decoder rate (Puts p ∷ h) ≡ start
restarts rate h p is = ap (λ f. unless_restarted f (decoder rate h)) is

pub moves : (rate : Rate) (s : CodecState) (codes : List ℕ) → state_past rate s (map place_of codes) ≡ after_codes rate s codes
unfolding state_past after_codes
moves rate s [] = refl
moves rate s (c ∷ cs) = moves rate (state_after rate s c) cs
