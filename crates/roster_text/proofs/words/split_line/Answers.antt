use Rattle.std.proofs.Common.{◌≡◌, ◌+◌, ℕ, ◌∷◌, take, drop, sym, ap, ◌∙◌, arith, rules, add-one}
use Rattle.roster_text.specs.Lines.{lines_of}
use Rattle.roster_text.proofs.Splitting.{line_at, line_last}
use Rattle.roster_text.proofs.words.split_line.Goals as goal

pub returns-then-at-text-clause-lines : goal.returns-then-at-text-clause-lines
returns-then-at-text-clause-lines c =
    line_last c.args.text.now (search rules) (λ i l. c.len_before-at.ensures.before i (omega arith))

pub returns-clause-lines : goal.returns-clause-lines
returns-clause-lines c =
    let text = c.args.text.now in
    let at = c.len_before-at.result in
    let whole : lines_of text ≡ take at text ∷ lines_of (drop (at + 1) text) =
    line_at text at (omega arith) c.len_before-at.ensures.before (c.len_before-at.ensures.stop (omega arith))
    ∙ ap (λ (n : ℕ). take at text ∷ lines_of (drop n text)) (sym (add-one at)) in
    rw (c.split_at.ensures.front, c.split_at-2.ensures.back) whole
