-- Which words are a command line of the program.
use Rattle.std.specs.Prelude.{ℕ, ◌&&◌, if◌then◌else◌, List, [], ◌∷◌, Option, None}
use Rattle.std.specs.Option.{option_map}
use Rattle.program_edge.specs.Words.{is_plain, number_upto}

-- a port, and the names of two files
pub record Form : Type 0 where
  pub port : ℕ
  pub peers : List ℕ
  pub roster : List ℕ

-- what the words `PORT PEERS ROSTER` ask for: a port from 1 to 65535, and two plain words
abbrev pub form_of : List (List ℕ) → Option Form
form_of (port ∷ peers ∷ roster ∷ []) =
    if is_plain peers && is_plain roster
    then option_map (λ number. record { port = number; peers = peers; roster = roster }) (number_upto 65535 port)
    else None
form_of words = None
