-- Voices: members with their frames.
use Rattle.std.specs.Prelude.{ℕ, ◌<◌, ◌≢◌, AllPairs, List, [], ◌∷◌}
use Rattle.g726_bits.specs.declared.Frame.{Frame}

-- a member's number, and its frame
abbrev pub Voice : Type 0
Voice = ℕ × Frame

-- no two voices are of one member
abbrev pub MembersDiffer : List Voice → Type 0
MembersDiffer voices = AllPairs (λ a b. a.0 ≢ b.0) voices

-- the voices stand by rising number
abbrev pub MembersRise : List Voice → Type 0
MembersRise [] = Unit {0}
MembersRise (v ∷ []) = Unit {0}
MembersRise (v ∷ w ∷ ws) = (v.0 < w.0) × MembersRise (w ∷ ws)

-- the voice is of none of these members
abbrev pub IsNew : Voice → List Voice → Type 0
IsNew v [] = Unit {0}
IsNew v (w ∷ ws) = (v.0 ≢ w.0) × IsNew v ws

-- each voice is of another member than those after it
abbrev pub EachNew : List Voice → Type 0
EachNew [] = Unit {0}
EachNew (v ∷ vs) = IsNew v vs × EachNew vs
