use Rattle.std.proofs.Common.{rules}
use Rattle.roster_text.proofs.Splitting.{no_word, word_first}
use Rattle.roster_text.proofs.words.split_word.Goals as goal

pub returns-then-is_empty-clause-words : goal.returns-then-is_empty-clause-words
returns-then-is_empty-clause-words c =
    no_word c.args.line.now c.split_at.result.1.now c.gap_len.result c.split_at.ensures.back c.gap_len.ensures.within c.gap_len.ensures.gap (search rules)

pub returns-clause-words : goal.returns-clause-words
returns-clause-words c =
    rw (c.split_at-2.ensures.front, c.split_at-2.ensures.back)
    (word_first c.args.line.now c.split_at.result.1.now c.gap_len.result c.word_len.result c.split_at.ensures.back c.gap_len.ensures.within (search rules)
    c.gap_len.ensures.gap c.gap_len.ensures.word c.word_len.ensures.within c.word_len.ensures.word c.word_len.ensures.gap)
