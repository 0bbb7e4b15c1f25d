-- The checker computes the codes.
use Rattle.g726_bits.proofs.Computed.{square_16, square_24, square_32, square_40}
use Rattle.g726_bits.proofs.laws.square_wave_is_coded.Goals as goal

pub returns : goal.returns
returns c = record { at_16 = square_16; at_24 = square_24; at_32 = square_32; at_40 = square_40 }
