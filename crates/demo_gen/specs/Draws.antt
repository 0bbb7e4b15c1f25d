-- The draws of a generator.
use Rattle.std.specs.Prelude.{ℕ, zero, suc, ◌+◌, ◌*◌, ◌/◌, ◌%◌, ◌^◌, List, map}
use Rattle.std.specs.List.{range_with_len}

-- the number after this one: a linear congruential generator of 32 bits
abbrev pub next : ℕ → ℕ
next x = (1664525 * x + 1013904223) % 2 ^ 32

-- the number after so many draws
unfoldable pub after_draws : ℕ → ℕ → ℕ
after_draws x zero = x
after_draws x (suc n) = next (after_draws x n)

-- the draw at a place, counted from 0: the top octet of the number that it leaves
abbrev pub draw : ℕ → ℕ → ℕ
draw x place = next (after_draws x place) / 2 ^ 24

-- so many draws from a place on
unfoldable pub draws : ℕ → ℕ → ℕ → List ℕ
draws x place count = map (draw x) (range_with_len place count)
