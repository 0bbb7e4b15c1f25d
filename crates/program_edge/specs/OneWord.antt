-- The command that `clap` parses the words by.
use Rattle.std.specs.Prelude.{true, codes}
use Rattle.clap.specs.Words.{App, Rule, new_app, new_rule, with_rule}

abbrev pub word : Rule
word = record (new_rule (codes "word")) { required = true }

-- a command of one required word
abbrev pub one_word : App
one_word = with_rule (new_app (codes "program")) word
