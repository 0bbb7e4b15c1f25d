-- Which words are a command line of the program.
use Rattle.std.specs.Prelude.{ℕ, ◌&&◌, List, [], ◌∷◌, Option, Some, None, if◌then◌else◌}
use Rattle.std.specs.Option.{option_map}
use Rattle.program_edge.specs.Words.{is_plain}

-- the names that the words give
pub record Names : Type 0 where
  pub roster : List ℕ
  pub out : List ℕ

-- the two words ROSTER and OUT: neither is empty or begins with a dash
abbrev pub names_of : List (List ℕ) → Option Names
names_of (roster ∷ out ∷ []) = if is_plain roster && is_plain out then Some (record { roster = roster; out = out }) else None
names_of words = None

abbrev pub roster_of : List (List ℕ) → Option (List ℕ)
roster_of words = option_map (λ names. names.roster) (names_of words)

abbrev pub out_of : List (List ℕ) → Option (List ℕ)
out_of words = option_map (λ names. names.out) (names_of words)
