use Rattle.std.proofs.Common.{◌≡◌, ◌++◌, length}
use Rattle.roster_text.specs.Lines.{words_of}
use Rattle.roster_text.specs.Lent.{texts}
use Rattle.roster_text.proofs.words.split_words.Given as goal

abbrev pub invariant-loop-word : goal.invariant-loop-word
invariant-loop-word l = texts l.words.items ++ words_of l.rest ≡ words_of l.line

abbrev pub decreases-loop-word : goal.decreases-loop-word
decreases-loop-word l = length l.rest
