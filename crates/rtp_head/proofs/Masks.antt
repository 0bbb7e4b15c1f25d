-- What the masks of the first two octets leave.
use Rattle.std.proofs.Common.{◌≡◌, ℕ, ◌%◌}
use Rattle.std.specs.Prelude.{bit_and}
use Rattle.std.proofs.lemmas.Nat.{and_mask}

pub lowest_bit : (n : ℕ) → bit_and n 1 ≡ n % 2
lowest_bit n = and_mask n 1

pub lowest_four : (n : ℕ) → bit_and n 15 ≡ n % 16
lowest_four n = and_mask n 4

pub lowest_seven : (n : ℕ) → bit_and n 127 ≡ n % 128
lowest_seven n = and_mask n 7

pub ruleset masks = (lowest_bit, lowest_four, lowest_seven)
