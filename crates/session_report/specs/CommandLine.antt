-- Which words are a command line of the program.
use Rattle.std.specs.Prelude.{ℕ, ◌&&◌, List, [], ◌∷◌, codes, Option, Some, None, if◌then◌else◌}
use Rattle.std.specs.Str.{bytes_eq}
use Rattle.std.specs.Option.{option_map}
use Rattle.program_edge.specs.Words.{is_plain}
use Rattle.session_account.specs.declared.forms.Form.{Form}
use Rattle.session_account.specs.declared.forms.Form.TheVariants.{Table, Json}

-- the form of the report, and the roster's name
pub record Asked : Type 0 where
  pub form : Form
  pub roster : List ℕ

-- what the words ask for: ROSTER for a table, or `json ROSTER`; the name is neither empty nor begins with a dash
abbrev pub asked_of : List (List ℕ) → Option Asked
asked_of (roster ∷ []) = if is_plain roster then Some (record { form = Table; roster = roster }) else None
asked_of (command ∷ roster ∷ []) =
    if bytes_eq command (codes "json") && is_plain roster then Some (record { form = Json; roster = roster }) else None
asked_of words = None

abbrev pub roster_of : List (List ℕ) → Option (List ℕ)
roster_of words = option_map (λ asked. asked.roster) (asked_of words)

abbrev pub form_of : List (List ℕ) → Option Form
form_of words = option_map (λ asked. asked.form) (asked_of words)
