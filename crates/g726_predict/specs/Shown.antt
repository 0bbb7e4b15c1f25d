-- The predictor's fields as contracts see them.
use Rattle.g726_bits.specs.State.{PredictorState}
use Rattle.g726_predict.specs.declared.Predictor.TheInside.{Inside}

-- the groups of fields as one record, in the Recommendation's names
abbrev pub shown : Inside → PredictorState
shown p = record {
  a1 = p.poles.a1;
  a2 = p.poles.a2;
  b1 = p.zeros.b1;
  b2 = p.zeros.b2;
  b3 = p.zeros.b3;
  b4 = p.zeros.b4;
  b5 = p.zeros.b5;
  b6 = p.zeros.b6;
  sr1 = p.poles.sr1;
  sr2 = p.poles.sr2;
  dq1 = p.past.dq1;
  dq2 = p.past.dq2;
  dq3 = p.past.dq3;
  dq4 = p.past.dq4;
  dq5 = p.past.dq5;
  dq6 = p.past.dq6;
  pk1 = p.poles.pk1;
  pk2 = p.poles.pk2;
  td = p.poles.td;
}

-- and back
abbrev pub grouped : PredictorState → Inside
grouped s = record {
  poles = record { a1 = s.a1; a2 = s.a2; sr1 = s.sr1; sr2 = s.sr2; pk1 = s.pk1; pk2 = s.pk2; td = s.td };
  zeros = record { b1 = s.b1; b2 = s.b2; b3 = s.b3; b4 = s.b4; b5 = s.b5; b6 = s.b6 };
  past = record { dq1 = s.dq1; dq2 = s.dq2; dq3 = s.dq3; dq4 = s.dq4; dq5 = s.dq5; dq6 = s.dq6 };
}
