-- One to four parts in place.
use Rattle.std.specs.Prelude.{List, [], ◌∷◌}
use Rattle.enc_group.specs.declared.parts.Few.{Few}
use Rattle.enc_group.specs.declared.parts.Few.TheVariants.{One, Two, Three, Four}
use Rattle.enc_group.specs.Part.{Part}

abbrev pub parts_of : Few → List Part
parts_of (One a) = a ∷ []
parts_of (Two a b) = a ∷ b ∷ []
parts_of (Three a b c) = a ∷ b ∷ c ∷ []
parts_of (Four a b c d) = a ∷ b ∷ c ∷ d ∷ []

-- of a list with one to four parts
abbrev pub few_of : List Part → Few
few_of [] = One (0, [])
few_of (a ∷ []) = One a
few_of (a ∷ b ∷ []) = Two a b
few_of (a ∷ b ∷ c ∷ []) = Three a b c
few_of (a ∷ b ∷ c ∷ d ∷ ps) = Four a b c d
