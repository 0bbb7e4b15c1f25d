-- How long a payload is.
use Rattle.std.specs.Prelude.{ℕ, ◌≡◌, ◌*◌}
use Rattle.g726_bits.specs.declared.Rate.{Rate}
use Rattle.g726_bits.specs.Rates.{bits_of}

-- the number of octets of a frame at some rate: 40, 60, 80 or 100
abbrev pub IsSize : ℕ → Type 0
IsSize n = (rate : Rate) × (n ≡ 20 * bits_of rate)
