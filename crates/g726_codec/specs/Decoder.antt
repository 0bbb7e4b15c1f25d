-- A run of the decoder over codes, one after the other.
use Rattle.std.specs.Prelude.{ℕ, ℤ, List, [], ◌∷◌}
use Rattle.g726_bits.specs.declared.Rate.{Rate}
use Rattle.g726_bits.specs.State.{CodecState}
use Rattle.g726_bits.specs.Step.{state_after, sample_of}

-- the state after these codes
unfoldable pub after_codes : Rate → CodecState → List ℕ → CodecState
after_codes rate s [] = s
after_codes rate s (c ∷ cs) = after_codes rate (state_after rate s c) cs

-- the samples that a decoder gives for codes
unfoldable pub samples_of : Rate → CodecState → List ℕ → List ℤ
samples_of rate s [] = []
samples_of rate s (c ∷ cs) = sample_of rate s c ∷ samples_of rate (state_after rate s c) cs
