-- The codec's state on its way through a frame.
use Rattle.g726_bits.specs.State.{ScaleState, CodecState}
use Rattle.g726_predict.specs.Rows.{OnFrame}

-- the state that a predictor on its way and a scale make
abbrev pub joined : OnFrame → ScaleState → CodecState
joined p s = record { predictor = p.state; scale = s }
