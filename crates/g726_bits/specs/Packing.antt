-- Codes in a packet's octets (RFC 3551, 4.5.4: the first code in the least significant bits).
use Rattle.std.specs.Prelude.{ℕ, zero, suc, List, [], ◌∷◌, ◌+◌, ◌*◌, ◌/◌, ◌%◌, ◌^◌}
use Rattle.g726_bits.specs.declared.Rate.{Rate}
use Rattle.g726_bits.specs.Rates.{bits_of}

-- the number whose digits to a base are these, the least significant first
unfoldable pub number : ℕ → List ℕ → ℕ
number base [] = 0
number base (d ∷ ds) = d + base * number base ds

-- the first k digits of a number to a base, the least significant first
unfoldable pub digits : ℕ → ℕ → ℕ → List ℕ
digits base zero n = []
digits base (suc k) n = n % base ∷ digits base k (n / base)

-- the octets of a frame's codes: one number, whose digits the codes are
unfoldable pub packed : Rate → List ℕ → List ℕ
packed rate codes = digits 256 (20 * bits_of rate) (number (2 ^ bits_of rate) codes)

-- the 160 codes of a frame's octets
unfoldable pub unpacked : Rate → List ℕ → List ℕ
unpacked rate octets = digits (2 ^ bits_of rate) 160 (number 256 octets)
