use Rattle.std.proofs.Common.{◌≡◌, ◌++◌, take, drop}
use Rattle.book_lists.specs.Levels.{rests_after}
use Rattle.tick_core.proofs.seating.seated.Given as goal

-- the first ones are at their seats, and the others are as they were
abbrev pub invariant-loop-place : goal.invariant-loop-place
invariant-loop-place l = l.present ≡ rests_after 0 (take l.place l.fn.present) ++ drop l.place l.fn.present
