-- The voices ahead of all others that a scan has met.
use Rattle.std.specs.Prelude.{List, [], ◌∷◌}
use Rattle.talk_mix.specs.Voices.{Voice}
use Rattle.talk_mix.specs.declared.choice.Front.{Front}
use Rattle.talk_mix.specs.declared.choice.Front.TheVariants.{Nobody, One, Two, Three}

abbrev pub front_of : Front → List Voice
front_of Nobody = []
front_of (One a) = a.voice.now ∷ []
front_of (Two a b) = a.voice.now ∷ b.voice.now ∷ []
front_of (Three a b c) = a.voice.now ∷ b.voice.now ∷ c.voice.now ∷ []
