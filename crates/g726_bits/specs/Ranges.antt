-- Ranges of whole numbers, and those of the codec's state.
use Rattle.std.specs.Prelude.{ℤ, pos, negsuc, ◌≤ℤ◌, ◌-ℤ◌, neg_ℤ}
use Rattle.g726_bits.specs.State.{PredictorState, ScaleState, CodecState}

-- the number lies from one bound to the other, both of them included
pub record Within (low high number : ℤ) : Type 0 where
  pub at_least : low ≤ℤ number
  pub at_most : number ≤ℤ high

-- a sample of uniform 14-bit speech (G.711, the 14-bit scale of mu-law)
abbrev pub IsSample : ℤ → Type 0
IsSample z = Within (negsuc 8191) (pos 8191) z

-- a step size (G.726, 4.2.5, LIMB)
abbrev pub IsStepSize : ℤ → Type 0
IsStepSize y = Within (pos 544) (pos 5120) y

-- the poles stay where the predictor is stable (LIMC, LIMD)
pub record IsStable (p : PredictorState) : Type 0 where
  pub second : Within (negsuc 12287) (pos 12288) p.a2
  pub first : Within (neg_ℤ (pos 15360 -ℤ p.a2)) (pos 15360 -ℤ p.a2) p.a1

-- what the scale and its speed never leave
pub record IsInRange (s : ScaleState) : Type 0 where
  pub fast : IsStepSize s.yu
  pub slow : Within (pos 34816) (pos 327680) s.yl
  pub speed : Within (pos 0) (pos 512) s.ap
  pub short : Within (pos 0) (pos 3584) s.dms
  pub long : Within (pos 0) (pos 14336) s.dml

-- the same of a whole state
pub record IsSound (s : CodecState) : Type 0 where
  pub predictor : IsStable s.predictor
  pub scale : IsInRange s.scale
