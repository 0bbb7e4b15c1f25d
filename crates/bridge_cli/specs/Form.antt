-- Which call the words are for.
use Rattle.std.specs.Prelude.{ℕ, Bool, false, List, [], ◌∷◌, codes}
use Rattle.std.specs.Str.{bytes_eq}

-- the first word is `demo`
abbrev pub asks_demo : List (List ℕ) → Bool
asks_demo [] = false
asks_demo (command ∷ others) = bytes_eq command (codes "demo")

-- the first word is `shared`
abbrev pub asks_shared : List (List ℕ) → Bool
asks_shared [] = false
asks_shared (command ∷ others) = bytes_eq command (codes "shared")
