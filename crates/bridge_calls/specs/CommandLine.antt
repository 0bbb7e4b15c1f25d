-- Which words are a command line of the program.
use Rattle.std.specs.Prelude.{ℕ, ◌&&◌, List, ◌∷◌, [], codes, Option, None, is_some, option_and_then, if◌then◌else◌}
use Rattle.std.specs.Str.{bytes_eq}
use Rattle.program_edge.specs.Words.{operand_of, number_upto}

-- the roster's name, where the words are `alone ROSTER`
abbrev pub roster_of : List (List ℕ) → Option (List ℕ)
roster_of words = operand_of (codes "alone") words

-- the roster's name, where the words are `shared N ROSTER` and N is 1 to 16
abbrev pub shared_roster_of : List (List ℕ) → Option (List ℕ)
shared_roster_of (command ∷ count ∷ others) =
    if bytes_eq command (codes "shared") && is_some (number_upto 16 count) then operand_of count (count ∷ others) else None
shared_roster_of words = None

-- how many workers three words ask for by the second: 1 to 16
abbrev pub workers_of : List (List ℕ) → Option ℕ
workers_of (command ∷ count ∷ name ∷ []) = number_upto 16 count
workers_of words = None

-- the session's number, where the words are `demo NUMBER`: 1 to 9999
abbrev pub demo_of : List (List ℕ) → Option ℕ
demo_of words = option_and_then (number_upto 9999) (operand_of (codes "demo") words)
