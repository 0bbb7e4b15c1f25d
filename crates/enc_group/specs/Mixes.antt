-- How a group is divided: by the value of what each of its listeners hears.
use Rattle.std.specs.Prelude.{◌≡◌, ◌≢◌, ℕ, Bool, true, false, ◌&&◌, ◌==◌, not, List, [], ◌∷◌, map, filter, Option, Some, None, if◌then◌else◌}
use Rattle.std.specs.List.{list_any}
use Rattle.g726_bits.specs.declared.Frame.{Frame}
use Rattle.g726_bits.specs.contracts.FramePartialEq.TheImpl as frame_eq
use Rattle.talk_mix.specs.Voices.{Voice}
use Rattle.talk_mix.specs.Mix.{mix}
use Rattle.enc_group.specs.declared.Seat.{Seat}
use Rattle.enc_group.specs.Groups.{sits}
use Rattle.enc_group.specs.Part.{Part}

abbrev pub is_same : Frame → Frame → Bool
is_same = (frame_eq.ghosts).eq

-- what the listener of a seat hears
abbrev pub heard : List Voice → Seat → Frame
heard tick s = mix s.listener tick

-- the mixes of a group's listeners, in join order
abbrev pub mixes_at : ℕ → List Voice → List Seat → List Frame
mixes_at key tick seats = map (heard tick) (filter (sits key) seats)

-- each frame where it stands first
abbrev pub each_once : List Frame → List Frame
each_once [] = []
each_once (f ∷ fs) = f ∷ filter (λ g. not (is_same f g)) (each_once fs)

-- the key of the part of this mix; another key where there is none
abbrev pub part_of : ℕ → Frame → List Part → ℕ
part_of other f [] = other
part_of other f (p ∷ ps) = if is_same p.1 f then p.0 else part_of other f ps

-- a seat once a group is divided into parts
abbrev pub divided : ℕ → List Voice → List Part → Seat → Seat
divided key tick parts s =
    if sits key s then record { listener = s.listener; key = part_of key (heard tick s) parts } else s

abbrev pub has_key : List Part → ℕ → Bool
has_key [] key = false
has_key (p ∷ ps) key = if p.0 == key then true else has_key ps key

-- a seat once those at one key who hear this mix have moved to another
abbrev pub parted : ℕ → ℕ → Frame → List Voice → Seat → Seat
parted from into f tick s =
    if sits from s && is_same (heard tick s) f then record { listener = s.listener; key = into } else s

-- no two parts have one key
abbrev pub KeysDiffer : List Part → Type 0
KeysDiffer [] = Unit {0}
KeysDiffer (p ∷ ps) = (has_key ps p.0 ≡ false) × KeysDiffer ps
