-- What `clap` makes of a command of one required word: that word, where there is just one.
use Rattle.std.proofs.Common.{◌≡◌, ◌∙◌, ℕ, Bool, true, false, not, ◌&&◌, ◌==◌, List, [], ◌∷◌, ◌⊎◌, ⊎_elim, Option, Some, None, refl, sym, ap, subst}
use Rattle.std.proofs.Common.{codes, drop}
use Rattle.std.specs.List.{list_all}
use Rattle.clap.specs.Words.{App, HasMatchesOf, IsAmong, Text, fault_of, first_of, first_value, found_of, is_simple, is_simple_and_free, matches_of, rows_of}
use Rattle.clap.specs.declared.parser.matches.ArgMatches.{ArgMatches}
use Rattle.clap.specs.declared.error.kind.ErrorKind.{ErrorKind}
use Rattle.clap.specs.declared.error.kind.ErrorKind.TheVariants as kind
use Rattle.clap.proofs.OnLiterals.{clap_on_literals}
use Rattle.clap.proofs.WalkLemmas.{first_value-rows}
use Rattle.program_edge.specs.Words.{is_plain, only_of}
use Rattle.program_edge.specs.OneWord.{one_word}

-- none is too few
pub no_command : fault_of one_word [] ≡ kind.MissingRequiredArgument ∷ []
unfolding clap_on_literals
no_command = refl

pub no_word : (command : Text) → fault_of one_word (command ∷ []) ≡ kind.MissingRequiredArgument ∷ []
unfolding clap_on_literals
no_word command = refl

-- one is taken
pub one_passes : (command : Text) (c : ℕ) (cs : Text) → (c == 45) ≡ false → fault_of one_word (command ∷ (c ∷ cs) ∷ []) ≡ []
unfolding clap_on_literals
one_passes command c cs plain = rw (plain, plain) refl

pub that_word : (command : Text) (c : ℕ) (cs : Text) → (c == 45) ≡ false →
    first_of (codes "word") (matches_of one_word (command ∷ (c ∷ cs) ∷ [])) ≡ Some (c ∷ cs)
unfolding clap_on_literals
that_word command c cs plain = rw (plain, plain) refl

-- two are too many, whatever follows
pub more_words : (command : Text) (c : ℕ) (cs : Text) (d : ℕ) (ds : Text) (rest : List Text) → (c == 45) ≡ false → (d == 45) ≡ false →
    fault_of one_word (command ∷ (c ∷ cs) ∷ (d ∷ ds) ∷ rest) ≡ kind.UnknownArgument ∷ []
unfolding clap_on_literals
more_words command c cs d ds rest plain plain' = simp (plain, plain')

-- the words of a test that passes on all of them
first_passes : (b others : Bool) → (not b && others) ≡ true → b ≡ false
first_passes false others h = refl
first_passes true others h = absurd (cc)

others_pass : (first others : Bool) → (first && others) ≡ true → others ≡ true
others_pass true others h = h
others_pass false others h = absurd (cc)

-- where nothing is at fault, there is one word after the first, and it is read back
pub taken_back : (words : List Text) → list_all is_plain (drop 1 words) ≡ true → fault_of one_word words ≡ [] →
    (name : Text) × (only_of words ≡ Some name) × (first_of (codes "word") (matches_of one_word words) ≡ Some name)
taken_back [] plain none = let bad = sym no_command ∙ none in absurd (cc)
taken_back (command ∷ []) plain none = let bad = sym (no_word command) ∙ none in absurd (cc)
taken_back (command ∷ [] ∷ rest) plain none = absurd (cc)
taken_back (command ∷ (c ∷ cs) ∷ []) plain none = (c ∷ cs, refl, that_word command c cs (first_passes (c == 45) true plain))
taken_back (command ∷ (c ∷ cs) ∷ [] ∷ rest) plain none = let bad = others_pass (not (c == 45)) false plain in absurd (cc)
taken_back (command ∷ (c ∷ cs) ∷ (d ∷ ds) ∷ rest) plain none =
    let second = others_pass (not (c == 45)) (not (d == 45) && list_all is_plain rest) plain in
    let bad = sym (more_words command c cs d ds rest (first_passes (c == 45) _ plain) (first_passes (d == 45) _ second)) ∙ none in
    absurd (cc)

-- where something is, there is not just one
pub refused : (words : List Text) (k : ErrorKind) → list_all is_plain (drop 1 words) ≡ true → IsAmong k (fault_of one_word words) → only_of words ≡ None
refused [] k plain fault = refl
refused (command ∷ []) k plain fault = refl
refused (command ∷ [] ∷ rest) k plain fault = absurd (cc)
refused (command ∷ (c ∷ cs) ∷ []) k plain fault = absurd (rw (one_passes command c cs (first_passes (c == 45) true plain)) at fault)
refused (command ∷ (c ∷ cs) ∷ (d ∷ ds) ∷ rest) k plain fault = refl
refused (command ∷ (c ∷ cs) ∷ [] ∷ rest) k plain fault = refl

-- the same of a command that is built as this one
pub name_read : (app : App) (words : List Text) (m : ArgMatches) (got : Option Text) → app ≡ one_word → list_all is_plain (drop 1 words) ≡ true →
    (is_simple_and_free app ≡ true → fault_of app words ≡ []) → HasMatchesOf app words m → got ≡ first_value (found_of m) (codes "word") →
    (name : Text) × (only_of words ≡ Some name) × (got ≡ Some name)
name_read app words m got is plain kinds rows given =
    let none : fault_of one_word words ≡ [] = sym (ap (λ (a : App). fault_of a words) is) ∙ kinds (ap is_simple_and_free is) in
    let taken = taken_back words plain none in
    let read : rows_of (found_of m) ≡ matches_of one_word words = (rows (ap is_simple is)).0 ∙ ap (λ (a : App). matches_of a words) is in
    (taken.0, taken.1, given ∙ first_value-rows (found_of m) (codes "word") ∙ ap (first_of (codes "word")) read ∙ taken.2)

pub usage_refused : (app : App) (words : List Text) (k : ErrorKind) → app ≡ one_word → list_all is_plain (drop 1 words) ≡ true →
    (k ≡ kind.OutOfMemory → ⊥) → (is_simple_and_free app ≡ true → (k ≡ kind.OutOfMemory) ⊎ IsAmong k (fault_of app words)) → only_of words ≡ None
usage_refused app words k is plain other kinds =
    ⊎_elim (λ memory. absurd (other memory))
    (λ fault. refused words k plain (subst (λ (a : App). IsAmong k (fault_of a words)) is fault))
    (kinds (ap is_simple_and_free is))
