-- A run of the encoder, as contracts see it.
use Rattle.std.specs.Prelude.{ℕ, ℤ, List}
use Rattle.g726_bits.specs.declared.Rate.{Rate}
use Rattle.g726_bits.specs.State.{CodecState}

-- what a run was given: its permit's number, its rate, the state before and the mix
pub record Run : Type 0 where
  pub number : ℕ
  pub rate : Rate
  pub before : CodecState
  pub mix : List ℤ
