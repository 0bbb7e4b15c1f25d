use Rattle.std.proofs.Common.{◌≡◌, true, get_or, sym, ◌∙◌, arith, rules}
use Rattle.std.proofs.lemmas.Bool.Decides.{nat_tests}
use Rattle.roster_text.specs.Lines.{is_digit}
use Rattle.roster_text.proofs.Splitting.{number_passes}
use Rattle.roster_text.proofs.words.number.Goals as goal

pub returns-then-next-from-clause-value : goal.returns-then-next-from-clause-value
returns-then-next-from-clause-value c =
    let digit : is_digit (get_or c.args.word.now c.loop-octet.octet-index 0) ≡ true = first_of (search rules, grind (arith, nat_tests)) in
    sym (number_passes c.args.greatest c.loop-octet.n c.loop-octet.octet-index c.args.word.now (omega arith) digit (omega arith)) ∙ c.loop-octet.invariant.same
