-- What a line keeps.
use Rattle.std.specs.Prelude.{◌≡◌, ◌≤◌, ℕ, ℤ, pos, List, length, Option, None, unwrap_or, slice_index_or}
use Rattle.circular_buffer.specs.Buffer.{Buffer}
use Rattle.g726_bits.specs.Ranges.{IsSample}

-- the position if it has one, the number of packets refused in succession, and the places from the position on, none past the last
-- that was filled
pub record Kept : Type 0 where
  pub position : Option ℕ
  pub refusals : ℕ
  pub places : List (Option ℤ)

-- the ring of a line has room for 3,200 places, what it says are samples, and the next refusal at the latest restarts the line
pub record IsSound (refusals : ℕ) (ring : Buffer (Option ℤ)) : Type 0 where
  pub few : refusals ≤ 24
  pub count : length ring.items ≤ 3200
  pub capacity : ring.capacity ≡ 3200
  pub samples : (i : ℕ) → IsSample (unwrap_or (slice_index_or ring.items i None) (pos 0))
