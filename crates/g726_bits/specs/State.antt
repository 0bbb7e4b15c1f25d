-- What the codec keeps from one sample to the next (G.726, 4.2, DELAY), and its start.
use Rattle.std.specs.Prelude.{ℤ, pos, Bool, true, false}
use Rattle.g726_bits.specs.Floats.{ShortFloat, float_zero}

-- the adaptive predictor: poles, zeros, the last reconstructed signals and differences, and the tone's mark
pub record PredictorState : Type 0 where
  pub a1 : ℤ
  pub a2 : ℤ
  pub b1 : ℤ
  pub b2 : ℤ
  pub b3 : ℤ
  pub b4 : ℤ
  pub b5 : ℤ
  pub b6 : ℤ
  pub sr1 : ShortFloat
  pub sr2 : ShortFloat
  pub dq1 : ShortFloat
  pub dq2 : ShortFloat
  pub dq3 : ShortFloat
  pub dq4 : ShortFloat
  pub dq5 : ShortFloat
  pub dq6 : ShortFloat
  pub pk1 : Bool
  pub pk2 : Bool
  pub td : Bool

-- the quantiser's scale factor and the speed of its adaptation
pub record ScaleState : Type 0 where
  pub yu : ℤ
  pub yl : ℤ
  pub ap : ℤ
  pub dms : ℤ
  pub dml : ℤ

-- the whole state of an encoder or a decoder
pub record CodecState : Type 0 where
  pub predictor : PredictorState
  pub scale : ScaleState

-- the state that a reset sets
unfoldable pub predictor_start : PredictorState
predictor_start = record {
  a1 = pos 0;
  a2 = pos 0;
  b1 = pos 0;
  b2 = pos 0;
  b3 = pos 0;
  b4 = pos 0;
  b5 = pos 0;
  b6 = pos 0;
  sr1 = float_zero;
  sr2 = float_zero;
  dq1 = float_zero;
  dq2 = float_zero;
  dq3 = float_zero;
  dq4 = float_zero;
  dq5 = float_zero;
  dq6 = float_zero;
  pk1 = false;
  pk2 = false;
  td = false;
}

unfoldable pub scale_start : ScaleState
scale_start = record { yu = pos 544; yl = pos 34816; ap = pos 0; dms = pos 0; dml = pos 0 }

unfoldable pub start : CodecState
start = record { predictor = predictor_start; scale = scale_start }

-- the state that a silent signal settles at, above 16 kbit/s
unfoldable pub silent : CodecState
silent =
    let nothing : ShortFloat = record { neg = true; exp = 0; mant = 32 } in
    let settled : PredictorState = record predictor_start {
      dq1 = nothing;
      dq2 = nothing;
      dq3 = nothing;
      dq4 = nothing;
      dq5 = nothing;
      dq6 = nothing;
    } in
    record { predictor = settled; scale = record scale_start { ap = pos 497 } }
