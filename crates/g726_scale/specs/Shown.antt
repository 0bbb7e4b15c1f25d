-- The scale's fields as the profile's record, and back.
use Rattle.g726_bits.specs.State.{ScaleState}
use Rattle.g726_scale.specs.declared.Scale.TheInside.{Inside}

abbrev pub shown : Inside → ScaleState
shown s = record { yu = s.yu; yl = s.yl; ap = s.ap; dms = s.dms; dml = s.dml }

abbrev pub grouped : ScaleState → Inside
grouped s = record { yu = s.yu; yl = s.yl; ap = s.ap; dms = s.dms; dml = s.dml }
