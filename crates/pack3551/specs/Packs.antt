-- How far the packing of a frame's codes is.
use Rattle.std.specs.Prelude.{ℕ, List, ◌≡◌, ◌+◌, ◌-◌, ◌*◌, ◌^◌, ◌<◌, length, take, drop, replicate}
use Rattle.std.specs.List.{All}
use Rattle.g726_bits.specs.Packing.{number}

-- after i of the codes of n bits: some whole octets, and fewer than eight bits that wait
pub record Packs (n : ℕ) (codes : List ℕ) (i : ℕ) (octets : List ℕ) (count value width : ℕ) : Type 0 where
  pub sum : number 256 (take count octets) + 256 ^ count * value ≡ number (2 ^ n) (take i codes)
  pub place : 8 * count + width ≡ n * i
  pub below : value < 2 ^ width
  pub narrow : width < 8
  pub small : All (λ o. o < 256) (take count octets)
  pub long : length octets ≡ 100
  pub rest : drop count octets ≡ replicate (100 - count) 0
