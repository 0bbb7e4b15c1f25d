-- The arithmetic of the codec, over whole numbers without a bound.
use Rattle.std.specs.Prelude.{ℕ, zero, suc, ℤ, pos, negsuc, ◌-◌, ◌/◌, ◌%◌, ◌==◌, neg_ℤ, Bool, if◌then◌else◌, nat_lt, int_lt}

-- the greatest whole number not above z / m
abbrev pub floor_div : ℤ → ℕ → ℤ
floor_div (pos a) m = pos (a / m)
floor_div (negsuc a) m = negsuc (a / m)

-- what that division leaves, from 0 to m - 1
abbrev pub floor_mod : ℤ → ℕ → ℕ
floor_mod (pos a) m = a % m
floor_mod (negsuc a) m = m - 1 - a % m

-- the number from -32768 to 32767 that is z modulo 2^16 (G.726, two's complement of 16 bits)
unfoldable pub word : ℤ → ℤ
word z = let m = floor_mod z 65536 in if nat_lt m 32768 then pos m else negsuc (65535 - m)

-- z, or the bound that it is past
unfoldable pub limited : ℤ → ℤ → ℤ → ℤ
limited low high z = if int_lt z low then low else if int_lt high z then high else z

-- n with a minus sign where there is one
unfoldable pub signed : Bool → ℕ → ℤ
signed negative n = if negative then neg_ℤ (pos n) else pos n

-- the number of binary digits of n, of which k are counted at most
unfoldable pub digits_within : ℕ → ℕ → ℕ
digits_within zero n = 0
digits_within (suc k) n = if n == 0 then 0 else suc (digits_within k (n / 2))

-- the number of binary digits of n, which is below 2^32; 0 has none
unfoldable pub binary_length : ℕ → ℕ
binary_length n = digits_within 32 n
