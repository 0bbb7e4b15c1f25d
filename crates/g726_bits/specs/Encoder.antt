-- A run of the encoder over the samples of a frame.
use Rattle.std.specs.Prelude.{ℕ, ℤ, List, [], ◌∷◌}
use Rattle.g726_bits.specs.declared.Rate.{Rate}
use Rattle.g726_bits.specs.State.{CodecState}
use Rattle.g726_bits.specs.Step.{code_of, state_after}
use Rattle.g726_bits.specs.Packing.{packed}

-- the state after a sample
unfoldable pub stepped : Rate → CodecState → ℤ → CodecState
stepped rate s sample = state_after rate s (code_of rate s sample)

-- the codes of samples, one after the other
unfoldable pub codes_of : Rate → CodecState → List ℤ → List ℕ
codes_of rate s [] = []
codes_of rate s (x ∷ xs) = code_of rate s x ∷ codes_of rate (stepped rate s x) xs

-- the state after these samples
unfoldable pub after_samples : Rate → CodecState → List ℤ → CodecState
after_samples rate s [] = s
after_samples rate s (x ∷ xs) = after_samples rate (stepped rate s x) xs

-- a frame's octets
unfoldable pub payload_of : Rate → CodecState → List ℤ → List ℕ
payload_of rate s frame = packed rate (codes_of rate s frame)
