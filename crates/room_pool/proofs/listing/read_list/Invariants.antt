use Rattle.std.proofs.Common.{◌≡◌, ◌+◌, ◌≤◌, length}
use Rattle.roster_text.specs.Lines.{lines_of}
use Rattle.room_pool.specs.Listed.{lines_make, room_list, IsList}
use Rattle.room_pool.proofs.listing.read_list.Given as goal

abbrev pub invariant-loop-text : goal.invariant-loop-text
invariant-loop-text l = record {
  same : lines_make (lines_of l.rest) l.line l.list ≡ room_list l.bytes;
  kept : IsList l.list;
  short : l.line + length l.rest ≤ 1 + length l.bytes;
}

abbrev pub decreases-loop-text : goal.decreases-loop-text
decreases-loop-text l = length l.rest
