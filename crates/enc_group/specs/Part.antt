-- The parts of a divided group.
use Rattle.std.specs.Prelude.{ℕ}
use Rattle.g726_bits.specs.declared.Frame.{Frame}

-- a key and the mix of those who sit there
abbrev pub Part : Type 0
Part = ℕ × Frame
