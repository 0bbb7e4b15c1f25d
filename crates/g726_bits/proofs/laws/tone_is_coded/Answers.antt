-- The checker computes the codes.
use Rattle.g726_bits.proofs.Computed.{sine_16, sine_24, sine_32, sine_40}
use Rattle.g726_bits.proofs.laws.tone_is_coded.Goals as goal

pub returns : goal.returns
returns c = record { at_16 = sine_16; at_24 = sine_24; at_32 = sine_32; at_40 = sine_40 }
