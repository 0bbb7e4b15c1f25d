-- What a ring holds.
use Rattle.std.specs.Prelude.{◌≡◌, ◌≤◌, ℕ, ℤ, length, Option, None, slice_index_or}
use Rattle.circular_buffer.specs.Buffer.{Buffer}

-- at most 3,200 places, which hold this from the front on, and nothing past them
pub record Holds (ring : Buffer (Option ℤ)) (places : ℕ → Option ℤ) : Type 0 where
  pub count : length ring.items ≤ 3200
  pub capacity : ring.capacity ≡ 3200
  pub at : (i : ℕ) → slice_index_or ring.items i None ≡ places i
