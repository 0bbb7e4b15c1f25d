-- What a stream of samples is encoded as, and what a stream of codes is decoded as.
use Rattle.std.specs.Prelude.{ℕ, zero, suc, ℤ, pos, ◌+◌, ◌-◌, ◌*◌, ◌/◌, ◌%◌, ◌==◌, List, [], ◌∷◌, ◌++◌, length, take, drop, map, replicate, if◌then◌else◌}
use Rattle.std.specs.List.{flat_map}
use Rattle.g726_bits.specs.declared.Rate.{Rate}
use Rattle.g726_bits.specs.Rates.{bits_of}
use Rattle.g726_bits.specs.State.{CodecState, start}
use Rattle.g726_bits.specs.Encoder.{after_samples, payload_of}
use Rattle.g726_bits.specs.Packing.{unpacked}
use Rattle.g726_codec.specs.Decoder.{samples_of}
use Rattle.g726_stream.specs.Samples.{samples_in, octets_of}
use Rattle.g726_stream.specs.declared.asked.Way.{Way}
use Rattle.g726_stream.specs.declared.asked.Way.TheVariants.{Encode, Decode}
use Rattle.g726_stream.specs.declared.status.Status.{Status}
use Rattle.g726_stream.specs.declared.status.Status.TheVariants.{Done, OddOctet, TornFrame}

-- the first pieces of a list, this many of this size; the last one may lack some
abbrev pub pieces : {X : Type 0} → (count size : ℕ) → List X → List (List X)
pieces zero size xs = []
pieces (suc count) size xs = take size xs ∷ pieces count size (drop size xs)

-- ---- encoding ----

-- a frame of 160 samples, with zeros for those that lack
abbrev pub filled : List ℤ → List ℤ
filled samples = samples ++ replicate (160 - length samples) (pos 0)

-- the frames of samples, as many as hold all of them
unfoldable pub frames : List ℤ → List (List ℤ)
frames samples = map filled (pieces ((length samples + 159) / 160) 160 samples)

-- the payloads of an encoder in this state, one after the other
abbrev pub payloads : Rate → CodecState → List (List ℤ) → List ℕ
payloads rate s [] = []
payloads rate s (frame ∷ others) = payload_of rate s frame ++ payloads rate (after_samples rate s frame) others

-- the octets of samples as octets of codes
unfoldable pub encoded : Rate → List ℕ → List ℕ
encoded rate octets = payloads rate start (frames (samples_in octets))

-- how so many octets of samples end: in a last odd octet, if they do
abbrev pub end_of_samples : ℕ → Status
end_of_samples count = if count % 2 == 0 then Done else OddOctet (count - 1)

-- ---- decoding ----

-- the codes of all whole frames of octets
unfoldable pub codes_in : Rate → List ℕ → List ℕ
codes_in rate octets =
    let size = 20 * bits_of rate in flat_map (unpacked rate) (pieces (length octets / size) size octets)

-- the octets of codes as octets of samples
unfoldable pub decoded : Rate → List ℕ → List ℕ
decoded rate octets = flat_map octets_of (samples_of rate start (codes_in rate octets))

-- how so many octets of codes end: inside a frame, if they do
abbrev pub end_of_codes : Rate → ℕ → Status
end_of_codes rate count =
    let left = count % (20 * bits_of rate) in if left == 0 then Done else TornFrame (count - left)

-- ---- both ways ----

abbrev pub made : Way → Rate → List ℕ → List ℕ
made Encode rate octets = encoded rate octets
made Decode rate octets = decoded rate octets

abbrev pub end_of : Way → Rate → ℕ → Status
end_of Encode rate count = end_of_samples count
end_of Decode rate count = end_of_codes rate count
