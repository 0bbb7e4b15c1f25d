-- The words of a command line.
use Rattle.std.specs.Prelude.{ℕ, Bool, false, not, ◌&&◌, ◌==◌, nat_le, List, [], ◌∷◌, map, Option, Some, None, if◌then◌else◌}
use Rattle.roster_text.specs.Lines.{number_of}
use Rattle.std.specs.Str.{bytes_eq}
use Rattle.std.specs.Borrow.{Bor}

-- a word that isn't empty and doesn't begin with a dash
abbrev pub is_plain : List ℕ → Bool
is_plain [] = false
is_plain (first ∷ others) = not (first == 45)

-- the one word after this command, where it is plain
abbrev pub operand_of : List ℕ → List (List ℕ) → Option (List ℕ)
operand_of name (command ∷ word ∷ []) = if bytes_eq command name && is_plain word then Some word else None
operand_of name words = None

-- a word that begins with a digit other than 0
abbrev pub begins_above_zero : List ℕ → Bool
begins_above_zero [] = false
begins_above_zero (first ∷ others) = nat_le 49 first && nat_le first 57

-- the number that a word says in decimal digits without a leading zero, if it is at most the greatest
abbrev pub number_upto : ℕ → List ℕ → Option ℕ
number_upto greatest word = if begins_above_zero word then number_of greatest word else None

-- the one word after the first, where there is just one
abbrev pub only_of : List (List ℕ) → Option (List ℕ)
only_of (command ∷ name ∷ []) = Some name
only_of words = None

-- what words that are lent say
abbrev pub texts_of : List (Bor (List ℕ)) → List (List ℕ)
texts_of words = map (λ word. word.now) words
