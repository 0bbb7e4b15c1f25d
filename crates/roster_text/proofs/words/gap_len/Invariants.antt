use Rattle.std.proofs.Common.{◌≡◌, ◌<◌, ℕ, true, get_or}
use Rattle.roster_text.specs.Lines.{parts}
use Rattle.roster_text.proofs.words.gap_len.Given as goal

abbrev pub invariant-loop-i : goal.invariant-loop-i
invariant-loop-i l = (k : ℕ) → k < l.i → parts (get_or l.line k 0) ≡ true
