use Rattle.std.proofs.Common.{sym, ◌∙◌, arith}
use borrow.Author.Tests.{ltb-true, ltb-false}
use Rattle.roster_text.proofs.Forms.{nine_words, ten_words, other_count}
use Rattle.roster_text.proofs.shapes.form.Goals as goal
use Rattle.roster_text.proofs.shapes.form.Goals.{in_default-via-then-words-lt2, in_default-via-else-words-lt2+else-words-lt3+else-words-lt4+then-words-lt5, in_default-via-else-words-lt2+else-words-lt3+else-words-lt4+else-words-lt5+else-words-lt6+then-words-lt9, in_default-via-else-words-lt2+else-words-lt3+else-words-lt4+else-words-lt5+else-words-lt6+else-words-lt9+else-words-lt10+else-words-lt11}

pub returns-in-len9 : goal.returns-in-len9
returns-in-len9 c = c.join-in-len9.ensures ∙ sym (nine_words _ c.args.words.now (omega arith) (omega arith))

pub returns-in-len10 : goal.returns-in-len10
returns-in-len10 c = c.join-in-len10.ensures ∙ sym (ten_words _ c.args.words.now (omega arith) (omega arith))

pub returns-in_default : goal.returns-in_default
returns-in_default c =
    elim c.in_default.branch [
      | in_default-via-then-words-lt2 w ↦
          other_count c.args.words.now (λ e. omega (arith, ltb-true, ltb-false)) (λ e. omega (arith, ltb-true, ltb-false)) (λ e. omega (arith, ltb-true, ltb-false)) (λ e. omega (arith, ltb-true, ltb-false)) (λ e. omega (arith, ltb-true, ltb-false))
      | in_default-via-else-words-lt2+else-words-lt3+else-words-lt4+then-words-lt5 w ↦
          other_count c.args.words.now (λ e. omega (arith, ltb-true, ltb-false)) (λ e. omega (arith, ltb-true, ltb-false)) (λ e. omega (arith, ltb-true, ltb-false)) (λ e. omega (arith, ltb-true, ltb-false)) (λ e. omega (arith, ltb-true, ltb-false))
      | in_default-via-else-words-lt2+else-words-lt3+else-words-lt4+else-words-lt5+else-words-lt6+then-words-lt9 w ↦
          other_count c.args.words.now (λ e. omega (arith, ltb-true, ltb-false)) (λ e. omega (arith, ltb-true, ltb-false)) (λ e. omega (arith, ltb-true, ltb-false)) (λ e. omega (arith, ltb-true, ltb-false)) (λ e. omega (arith, ltb-true, ltb-false))
      | in_default-via-else-words-lt2+else-words-lt3+else-words-lt4+else-words-lt5+else-words-lt6+else-words-lt9+else-words-lt10+else-words-lt11 w ↦
          other_count c.args.words.now (λ e. omega (arith, ltb-true, ltb-false)) (λ e. omega (arith, ltb-true, ltb-false)) (λ e. omega (arith, ltb-true, ltb-false)) (λ e. omega (arith, ltb-true, ltb-false)) (λ e. omega (arith, ltb-true, ltb-false))
    ]
