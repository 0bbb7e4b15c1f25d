use Rattle.std.proofs.Common.{◌≡◌, ℕ, List, take}
use Rattle.std.specs.List.{AllZip}
use Rattle.rooms_run.specs.Ends.{given_to}
use Rattle.rooms_run.specs.Starting.{start_gives, IfRoom}
use Rattle.rooms_run.proofs.taking.take_rooms.Given as goal

abbrev pub invariant-loop-i : goal.invariant-loop-i
invariant-loop-i g l = record {
  gives : AllZip (λ n start. IfRoom (g.F.Shelf.file l.fn.shelf) n (λ text bytes. start_gives start ≡ given_to text bytes)) (take l.i l.list) l.starts.items;
  same : (other : List ℕ) → g.F.Shelf.file l.shelf other ≡ g.F.Shelf.file l.fn.shelf other;
  counts : g.F.Shelf.faults l.shelf ≡ g.F.Shelf.faults l.fn.shelf;
}
