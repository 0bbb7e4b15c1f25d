-- The step size between the two factors.
use Rattle.std.specs.Prelude.{ℤ, pos, ◌+ℤ◌, ◌-ℤ◌, ◌*ℤ◌, if◌then◌else◌, int_lt, unsigned_abs}
use Rattle.g726_bits.specs.Numbers.{floor_div}

-- the base, moved toward the fast factor by so many 64ths of the gap (G.726, MIX: Y)
unfoldable pub mixed : ℤ → ℤ → ℤ → ℤ
mixed fast base parts =
    let dif = fast -ℤ base in
    let part = floor_div (pos (unsigned_abs dif) *ℤ parts) 64 in
    if int_lt dif (pos 0) then base -ℤ part else base +ℤ part
