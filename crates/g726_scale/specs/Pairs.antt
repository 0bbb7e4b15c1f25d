-- What the tables have for a code.
use Rattle.std.specs.Prelude.{◌≡◌, ℕ, ℤ}
use Rattle.g726_bits.specs.declared.Rate.{Rate}
use Rattle.g726_bits.specs.Step.{scale_step, speed_step}

-- the two are what the tables have for one code at one rate (G.726, FUNCTW: W; FUNCTF: F)
pub record IsTablePair (w : ℤ) (f : ℕ) : Type 0 where
  pub rate : Rate
  pub code : ℕ
  pub scale : w ≡ scale_step rate code
  pub speed : f ≡ speed_step rate code
