-- Samples of 16 bits in octets, the low octet first.
use Rattle.std.specs.Prelude.{ℕ, ℤ, pos, ◌+◌, ◌*◌, ◌/◌, ◌%◌, ◌*ℤ◌, List, [], ◌∷◌}
use Rattle.g726_bits.specs.Numbers.{floor_div, floor_mod, word}

-- a fourth, rounded down, of the number of 16 bits that two octets spell
unfoldable pub fourth : ℕ → ℕ → ℤ
fourth low high = floor_div (word (pos (low + 256 * high))) 4

-- the samples of octets, two for each; a last odd octet is left out
abbrev pub samples_in : List ℕ → List ℤ
samples_in (low ∷ high ∷ octets) = fourth low high ∷ samples_in octets
samples_in octets = []

-- four times a sample, in two's complement of 16 bits
unfoldable pub whole : ℤ → ℕ
whole sample = floor_mod (pos 4 *ℤ sample) 65536

-- the octets of that
abbrev pub octets_of : ℤ → List ℕ
octets_of sample = whole sample % 256 ∷ whole sample / 256 ∷ []
