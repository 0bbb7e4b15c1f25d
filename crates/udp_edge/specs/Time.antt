-- What a clock tells.
use Rattle.std.specs.Prelude.{◌≡◌, ℕ, List, [], ◌∷◌, Option, None, Some, slice_get}

-- the answers after one: the others, and the last one again and again
abbrev pub later : List ℕ → List ℕ
later [] = []
later (last ∷ []) = last ∷ []
later (first ∷ next ∷ others) = next ∷ others

-- where the answers are told, this is the first of them, and the others are still to come
abbrev pub Answers : Option (List ℕ) → Option (List ℕ) → ℕ → Type 0
Answers None new now = new ≡ None
Answers (Some answers) new now = (slice_get answers 0 ≡ Some now) × (new ≡ Some (later answers))
