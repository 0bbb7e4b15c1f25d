-- What a hearer keeps.
use Rattle.std.specs.Prelude.{◌^◌, ◌≡◌, ℤ, pos, [], ◌∷◌}
use Rattle.std.specs.List.{All}
use Rattle.g726_bits.specs.declared.Rate.{Rate}
use Rattle.g726_bits.specs.Rates.{bits_of}
use Rattle.g726_bits.specs.Ranges.{Within}
use Rattle.g726_bits.specs.State.{CodecState}
use Rattle.jitter_line.specs.Kept.{Kept as LineKept}
use Rattle.jitter_line.specs.Histories.{Puts, Pulls, History}
use Rattle.jitter_line.specs.Standing.{Stands as LineStands}
use Rattle.talk_726.specs.Decoding.{decoder}

-- the rate, what the line keeps, and the decoder's state
pub record Kept : Type 0 where
  pub rate : Rate
  pub line : LineKept
  pub state : CodecState

-- no code, or one of the rate's bits
abbrev pub IsPlace : Rate → ℤ → Type 0
IsPlace rate x = Within (pos 0) (pos (2 ^ bits_of rate)) x

-- each packet of the history is made of codes
abbrev pub AreCodes : Rate → History → Type 0
AreCodes rate [] = Unit {0}
AreCodes rate (Puts p ∷ h) = All (IsPlace rate) p.samples × AreCodes rate h
AreCodes rate (Pulls ∷ h) = AreCodes rate h

-- what the line keeps came from packets of codes
pub record IsSound (rate : Rate) (line : LineKept) : Type 0 where
  pub history : History
  pub stands : LineStands line history
  pub codes : AreCodes rate history

-- the line keeps just what the history gives, and the decoder is where it is after that
pub record Stands (hearer : Kept) (h : History) : Type 0 where
  pub line : LineStands hearer.line h
  pub state : hearer.state ≡ decoder hearer.rate h
