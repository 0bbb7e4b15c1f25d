-- A predictor on its way through a frame, whose past differences lie in one row.
use Rattle.std.specs.Prelude.{ℕ, ◌+◌, get_or}
use Rattle.g726_bits.specs.Floats.{float_zero}
use Rattle.g726_bits.specs.State.{PredictorState}
use Rattle.g726_predict.specs.declared.frame.FramePredictor.TheInside.{Inside}

-- the predictor that it stands for, and the steps that it took
pub record OnFrame : Type 0 where
  pub state : PredictorState
  pub steps : ℕ

-- its fields as the profile's record: the newest difference is the sixth from the place of the steps on
abbrev pub shown_in : Inside → PredictorState
shown_in p = record {
  a1 = p.poles.a1;
  a2 = p.poles.a2;
  b1 = p.zeros.b1;
  b2 = p.zeros.b2;
  b3 = p.zeros.b3;
  b4 = p.zeros.b4;
  b5 = p.zeros.b5;
  b6 = p.zeros.b6;
  sr1 = p.poles.sr1;
  sr2 = p.poles.sr2;
  dq1 = get_or p.row (p.steps + 5) float_zero;
  dq2 = get_or p.row (p.steps + 4) float_zero;
  dq3 = get_or p.row (p.steps + 3) float_zero;
  dq4 = get_or p.row (p.steps + 2) float_zero;
  dq5 = get_or p.row (p.steps + 1) float_zero;
  dq6 = get_or p.row p.steps float_zero;
  pk1 = p.poles.pk1;
  pk2 = p.poles.pk2;
  td = p.poles.td;
}
