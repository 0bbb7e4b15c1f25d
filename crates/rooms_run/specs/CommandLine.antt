-- Which words are a command line of the program.
use Rattle.std.specs.Prelude.{ℕ, List, [], ◌∷◌, Option, None, is_some, if◌then◌else◌}
use Rattle.program_edge.specs.Words.{operand_of, number_upto}

-- the list's name, where the words are `N LIST` and N is 1 to 16
abbrev pub list_name : List (List ℕ) → Option (List ℕ)
list_name [] = None
list_name (count ∷ others) = if is_some (number_upto 16 count) then operand_of count (count ∷ others) else None
