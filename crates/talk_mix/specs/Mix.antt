-- What a member hears.
use Rattle.std.specs.Prelude.{ℕ, ℤ, pos, negsuc, ◌+ℤ◌, ◌==◌, not, List, [], ◌∷◌, filter, map, slice_index_or}
use Rattle.std.specs.Int.{int_max, int_min}
use Rattle.std.specs.List.{range_with_len}
use Rattle.g726_bits.specs.declared.Frame.{Frame}
use Rattle.talk_mix.specs.Voices.{Voice}

-- the voices of all other members
abbrev pub others : ℕ → List Voice → List Voice
others member voices = filter (λ v. not (v.0 == member)) voices

-- a frame's sample at a place, counted from 0
abbrev pub sample : Frame → ℕ → ℤ
sample frame place = slice_index_or frame place (pos 0)

-- the samples of these voices at one place, added up
abbrev pub sum_at : List Voice → ℕ → ℤ
sum_at [] place = pos 0
sum_at (v ∷ vs) place = sample v.1 place +ℤ sum_at vs place

-- brought to the nearest number of -8192..8191
abbrev pub limited : ℤ → ℤ
limited z = int_max (negsuc 8191) (int_min z (pos 8191))

-- the others, added up sample by sample and limited once
unfoldable pub mix : ℕ → List Voice → Frame
mix member voices = map (λ place. limited (sum_at (others member voices) place)) (range_with_len 0 160)
