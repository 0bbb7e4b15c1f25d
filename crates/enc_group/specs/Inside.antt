-- What the crate's own types keep.
use Rattle.std.specs.Prelude.{◌≡◌, ℕ, ◌+◌, ◌≤◌, ◌<◌, Bool, true, false, ◌&&◌, List, Option, map, length, vec_len, vec_capacity, is_some}
use Rattle.std.specs.List.{list_any, AllByRecursion}
use Rattle.std.specs.Global.{Vec}
use Rattle.slab.specs.Slab.{Slab}
use Rattle.enc_group.specs.declared.Group.{Group}
use Rattle.enc_group.specs.declared.Seat.{Seat}
use Rattle.enc_group.specs.Groups.{group_in, sits, EachOnce}

-- each seat's group is there, each group has a seat, and no listener sits twice
pub record ArePeopled (groups : List (Option Group)) (seats : List Seat) : Type 0 where
  pub seated : AllByRecursion (λ s. is_some (group_in groups s.key) ≡ true) seats
  pub peopled : (key : ℕ) → is_some (group_in groups key) ≡ true → list_any (sits key) seats ≡ true
  pub once : EachOnce (map (λ s. s.listener) seats)

-- the same, and there is room for all that is spare
pub record IsKept (groups : Slab Group) (seats : Vec Seat) (spare : ℕ) : Type 0 where
  pub people : ArePeopled groups.slots seats.items
  pub seats_len : vec_len seats ≡ length seats.items
  pub seat_room : vec_len seats + spare ≤ vec_capacity seats
  pub group_room : length seats.items + spare ≤ groups.capacity
