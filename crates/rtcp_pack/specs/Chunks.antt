-- The chunks of a source description (RFC 3550, section 6.5).
use Rattle.std.specs.Prelude.{ℕ, zero, suc, ◌+◌, ◌*◌, ◌/◌, ◌==◌, Bool, true, false, List, [], ◌∷◌, drop, slice_index, Option, Some, None, if◌then◌else◌}
use Rattle.std.specs.Option.{option_map, option_map_or}

-- how many octets these have together: so many, then items of type, length and text, then the zero octet that ends them
unfoldable pub ended_len : ℕ → List ℕ → Option ℕ
ended_len before [] = None
ended_len (suc before) (b ∷ bytes) = option_map (λ len. 1 + len) (ended_len before bytes)
ended_len zero (b ∷ bytes) = if b == 0 then Some 1 else option_map (λ len. 1 + len) (ended_len (1 + slice_index bytes 0) bytes)

-- how many octets the chunk at the front has: an SSRC, items with their end, and as many more as fill the last word
unfoldable pub chunk_len : List ℕ → Option ℕ
chunk_len bytes = option_map (λ len. 4 * ((len + 3) / 4)) (ended_len 4 bytes)

-- so many chunks stand at the front
unfoldable pub chunks_fit : ℕ → List ℕ → Bool
chunks_fit zero bytes = true
chunks_fit (suc count) bytes = option_map_or (λ len. chunks_fit count (drop len bytes)) (chunk_len bytes) false
