-- The short floats of G.726 and their product with a coefficient.
use Rattle.std.specs.Prelude.{ℕ, ℤ, pos, ◌+◌, ◌-◌, ◌*◌, ◌/◌, ◌%◌, ◌^◌, ◌==◌, neg_ℤ, unsigned_abs, Bool, false, not, if◌then◌else◌, nat_le, int_lt}
use Rattle.g726_bits.specs.Numbers.{floor_div, floor_mod, binary_length, signed}

-- a sign, an exponent and a mantissa (G.726, 4.2.6, FLOATA: 1, 4 and 6 bits)
pub record ShortFloat : Type 0 where
  pub neg : Bool
  pub exp : ℕ
  pub mant : ℕ

-- the mantissa of n: its first six binary digits, and a half for 0
unfoldable pub mantissa : ℕ → ℕ
mantissa n = if n == 0 then 32 else 64 * n / 2 ^ binary_length n

-- a magnitude with a sign as a short float (FLOATA, FLOATB)
unfoldable pub float_of : Bool → ℕ → ShortFloat
float_of negative n = record { neg = negative; exp = binary_length n; mant = mantissa n }

-- the float of 0 that the start state holds
abbrev pub float_zero : ShortFloat
float_zero = record { neg = false; exp = 0; mant = 32 }

-- a coefficient's magnitude, a fourth of it, on 13 bits (FMULT: AnMAG)
unfoldable pub coefficient_magnitude : ℤ → ℕ
coefficient_magnitude c =
    if int_lt c (pos 0) then floor_mod (neg_ℤ (floor_div c 4)) 8192 else unsigned_abs (floor_div c 4)

-- the product of two mantissas, rounded to eight bits (FMULT: WAnMANT)
unfoldable pub mantissa_product : ℕ → ℕ → ℕ
mantissa_product m n = (m * n + 48) / 16

-- a mantissa scaled by its exponent, on 15 bits (FMULT: WAnMAG)
unfoldable pub scaled : ℕ → ℕ → ℕ
scaled exp mant =
    if nat_le exp 26 then 128 * mant / 2 ^ (26 - exp) else 128 * mant * 2 ^ (exp - 26) % 32768

-- whether exactly one of two holds (the exclusive or of two sign bits)
unfoldable pub differ : Bool → Bool → Bool
differ a b = if a then not b else b

-- the product of a coefficient and a short float (FMULT: WAn)
unfoldable pub product : ℤ → ShortFloat → ℤ
product c f =
    let magnitude = coefficient_magnitude c in
    signed (differ (int_lt c (pos 0)) f.neg)
    (scaled (binary_length magnitude + f.exp) (mantissa_product (mantissa magnitude) f.mant))
