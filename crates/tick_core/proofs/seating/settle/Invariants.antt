use Rattle.std.proofs.Common.{◌≡◌, List, ◌++◌, take, drop}
use Rattle.std.specs.List.{AllZip}
use Rattle.book_lists.specs.declared.seats.Rest.{Rest}
use Rattle.tick_core.specs.Opened.{Settled}
use Rattle.tick_core.proofs.seating.settle.Given as goal

-- the first ones are settled, and the others are as they were
abbrev pub invariant-loop-rest : goal.invariant-loop-rest
invariant-loop-rest l =
    (front : List Rest)
    × (l.present ≡ front ++ drop l.rest-index l.fn.present)
    × AllZip (Settled l.newest) (take l.rest-index l.fn.present) front
