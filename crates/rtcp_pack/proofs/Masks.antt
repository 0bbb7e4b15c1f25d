-- What the masks of the first octet leave.
use Rattle.std.proofs.Common.{◌≡◌, ℕ, ◌%◌}
use Rattle.std.specs.Prelude.{bit_and}
use Rattle.std.proofs.lemmas.Nat.{and_mask}

pub lowest_bit : (n : ℕ) → bit_and n 1 ≡ n % 2
lowest_bit n = and_mask n 1

pub lowest_five : (n : ℕ) → bit_and n 31 ≡ n % 32
lowest_five n = and_mask n 5

pub ruleset masks = (lowest_bit, lowest_five)
