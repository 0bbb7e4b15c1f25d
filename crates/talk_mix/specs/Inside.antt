-- What the crate's own types keep.
use Rattle.std.specs.Prelude.{List, [], ◌∷◌}
use Rattle.talk_mix.specs.Voices.{Voice}
use Rattle.talk_mix.specs.declared.ticks.Talkers.{Talkers}
use Rattle.talk_mix.specs.declared.ticks.Talkers.TheVariants.{Nobody, One, Two, Three}

-- the voices of a tick
abbrev pub voices_of : Talkers → List Voice
voices_of Nobody = []
voices_of (One a) = a ∷ []
voices_of (Two (a, b)) = a ∷ b ∷ []
voices_of (Three (a, b, c)) = a ∷ b ∷ c ∷ []

-- of a list with at most three voices
abbrev pub talkers_of : List Voice → Talkers
talkers_of [] = Nobody
talkers_of (a ∷ []) = One a
talkers_of (a ∷ b ∷ []) = Two (a, b)
talkers_of (a ∷ b ∷ c ∷ vs) = Three (a, b, c)
