use Rattle.std.proofs.Common.{◌≡◌, ◌+◌, ℕ, ◌∷◌, take, drop, sym, ap, ◌∙◌, arith, add-one}
use Rattle.roster_text.specs.Lines.{fields_of}
use Rattle.roster_text.proofs.Splitting.{field_at, field_last}
use Rattle.roster_text.proofs.words.split_field.Goals as goal

pub returns-then-at-word : goal.returns-then-at-word
returns-then-at-word c = field_last c.args.stop c.args.word.now (λ i l. c.len_before-at.ensures.before i (omega arith))

pub returns : goal.returns
returns c =
    let word = c.args.word.now in
    let stop = c.args.stop in
    let at = c.len_before-at.result in
    let whole : fields_of stop word ≡ take at word ∷ fields_of stop (drop (at + 1) word) =
    field_at stop word at (omega arith) c.len_before-at.ensures.before (c.len_before-at.ensures.stop (omega arith))
    ∙ ap (λ (n : ℕ). take at word ∷ fields_of stop (drop n word)) (sym (add-one at)) in
    rw (c.split_at.ensures.front, c.split_at-2.ensures.back) whole
