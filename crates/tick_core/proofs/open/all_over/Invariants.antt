use Rattle.std.proofs.Common.{◌≡◌, true, take}
use Rattle.book_lists.specs.Levels.{all_finished}
use Rattle.tick_core.proofs.open.all_over.Given as goal

abbrev pub invariant-loop-at : goal.invariant-loop-at
invariant-loop-at l = all_finished (take l.at l.table.rows) ≡ true
