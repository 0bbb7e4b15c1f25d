-- What the inverse quantiser is handed.
use Rattle.std.specs.Prelude.{◌≡◌, ℕ, ℤ, ◌^◌, ◌<◌}
use Rattle.g726_bits.specs.declared.Rate.{Rate}
use Rattle.g726_bits.specs.Rates.{bits_of}
use Rattle.g726_bits.specs.Step.{log_level}

-- the number is the normalised logarithm of a code of some rate (G.726, RECONST: DQLN)
pub record IsLogLevel (dqln : ℤ) : Type 0 where
  pub rate : Rate
  pub code : ℕ
  pub small : code < 2 ^ bits_of rate
  pub read : dqln ≡ log_level rate code
