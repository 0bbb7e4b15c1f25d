-- Who is heard in a tick.
use Rattle.std.specs.Prelude.{ℕ, Bool, ◌&&◌, ◌||◌, ◌==◌, nat_lt, nat_le, if◌then◌else◌, List, [], ◌∷◌, sum_by, count_by, filter, unsigned_abs}
use Rattle.g726_bits.specs.declared.Frame.{Frame}
use Rattle.talk_mix.specs.Voices.{Voice}

-- the sum of the absolute values of a frame's samples
abbrev pub loudness : Frame → ℕ
loudness frame = sum_by unsigned_abs frame

-- a is louder than b, or as loud with a lower number
abbrev pub is_ahead : Voice → Voice → Bool
is_ahead a b = nat_lt (loudness b.1) (loudness a.1) || loudness a.1 == loudness b.1 && nat_lt a.0 b.0

-- loud enough to be chosen
abbrev pub is_loud : Voice → Bool
is_loud v = nat_le 1600 (loudness v.1)

-- of these voices, one that is loud enough is chosen where fewer than three are ahead of it
abbrev pub is_chosen : List Voice → Voice → Bool
is_chosen voices v = is_loud v && nat_lt (count_by (λ a. is_ahead a v) voices) 3

-- a voice put among others, before the first that it precedes
abbrev pub put_by : (Voice → Voice → Bool) → Voice → List Voice → List Voice
put_by precedes v [] = v ∷ []
put_by precedes v (w ∷ ws) = if precedes v w then v ∷ w ∷ ws else w ∷ put_by precedes v ws

abbrev pub sorted_by : (Voice → Voice → Bool) → List Voice → List Voice
sorted_by precedes [] = []
sorted_by precedes (v ∷ vs) = put_by precedes v (sorted_by precedes vs)

abbrev pub is_lower : Voice → Voice → Bool
is_lower a b = nat_lt a.0 b.0

-- the chosen of these voices, by rising number
unfoldable pub chosen : List Voice → List Voice
chosen voices = sorted_by is_lower (filter (is_chosen voices) voices)
