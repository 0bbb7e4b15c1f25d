-- What a rate of the codec stands for.
use Rattle.std.specs.Prelude.{ℕ}
use Rattle.g726_bits.specs.declared.Rate.{Rate}
use Rattle.g726_bits.specs.declared.Rate.TheVariants.{R16, R24, R32, R40}

-- the number of bits in a code, n (G.726, table of rates: 16, 24, 32 and 40 kbit/s)
abbrev pub bits_of : Rate → ℕ
bits_of R16 = 2
bits_of R24 = 3
bits_of R32 = 4
bits_of R40 = 5
