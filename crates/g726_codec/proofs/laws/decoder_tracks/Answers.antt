-- Each code moves the decoder as its sample moved the encoder.
use Rattle.std.proofs.Common.{◌≡◌, ℤ, List, [], ◌∷◌, refl}
use Rattle.g726_bits.specs.declared.Rate.{Rate}
use Rattle.g726_bits.specs.State.{CodecState}
use Rattle.g726_bits.specs.Encoder.{stepped, codes_of, after_samples}
use Rattle.g726_codec.specs.Decoder.{after_codes}
use Rattle.g726_codec.proofs.laws.decoder_tracks.Goals as goal

tracks : (rate : Rate) (s : CodecState) (samples : List ℤ) → after_codes rate s (codes_of rate s samples) ≡ after_samples rate s samples
unfolding after_codes codes_of after_samples stepped
tracks rate s [] = refl
tracks rate s (x ∷ xs) = tracks rate (stepped rate s x) xs

pub returns : goal.returns
returns c = tracks
