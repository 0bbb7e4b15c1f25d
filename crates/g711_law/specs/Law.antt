use Rattle.std.specs.Prelude.{ℕ, ℤ, pos, neg_ℤ, Bool, ◌+◌, ◌-◌, ◌*◌, ◌/◌, ◌%◌, ◌^◌, ◌==◌, bit_xor, if◌then◌else◌}

-- the bits of a code, once its inverted ones are put right: a sign, three bits of a segment, four of a step in it
abbrev pub sign : ℕ → ℕ
sign bits = bits / 128

abbrev pub segment : ℕ → ℕ
segment bits = bits / 16 % 8

abbrev pub step : ℕ → ℕ
step bits = bits % 16

abbrev pub signed : Bool → ℕ → ℤ
signed negative magnitude = if negative then neg_ℤ (pos magnitude) else pos magnitude

-- the value of mu-law bits on the 14-bit scale, where a sign of 1 is negative
abbrev pub mu_value : ℕ → ℤ
mu_value bits = signed (sign bits == 1) ((2 * step bits + 33) * 2 ^ segment bits - 33)

-- in a mu-law code all bits are inverted (ITU-T G.711, tables 2a and 2b)
abbrev pub mu_law : ℕ → ℤ
mu_law code = mu_value (255 - code)

-- the magnitude of A-law bits on the 13-bit scale
abbrev pub a_magnitude : ℕ → ℕ
a_magnitude bits =
    if segment bits == 0 then 2 * step bits + 1 else (2 * step bits + 33) * 2 ^ (segment bits - 1)

-- the value of A-law bits on the 14-bit scale, where a sign of 0 is negative
abbrev pub a_value : ℕ → ℤ
a_value bits = signed (sign bits == 0) (2 * a_magnitude bits)

-- in an A-law code every second bit is inverted (ITU-T G.711, tables 1a and 1b)
abbrev pub a_law : ℕ → ℤ
a_law code = a_value (bit_xor code 0x55)
