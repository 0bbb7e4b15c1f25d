-- A payload's array, of which the rest is zeros.
use Rattle.std.specs.Prelude.{ℕ, List, ◌≡◌, ◌-◌, ◌≤◌, ◌++◌, length, drop, replicate}
use Rattle.pack3551.specs.Sizes.{IsSize}

-- an array of 100 octets, of which the first ones count and the others are 0
pub record IsPadded (octets : List ℕ) (count : ℕ) : Type 0 where
  pub long : length octets ≡ 100
  pub within : count ≤ 100
  pub rest : drop count octets ≡ replicate (100 - count) 0
  pub size : IsSize count

-- octets with zeros up to 100
abbrev pub padded : List ℕ → List ℕ
padded octets = octets ++ replicate (100 - length octets) 0
