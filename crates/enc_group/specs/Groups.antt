-- Groups of listeners: a map from keys to groups, and beside it who sits in which group, in join order.
use Rattle.std.specs.Prelude.{◌≡◌, ◌≢◌, ℕ, ◌≤◌, ◌<◌, ◌⊎◌, Bool, true, false, ◌&&◌, ◌==◌, not, cond, List, [], ◌∷◌, map, filter, length, Option, Some}
use Rattle.std.specs.Prelude.{None, is_some, IsSome, slice_index_or, if◌then◌else◌}
use Rattle.std.specs.List.{list_any, find}
use Rattle.std.specs.Option.{option_map}
use Rattle.g726_bits.specs.declared.Rate.{Rate}
use Rattle.g726_bits.specs.State.{CodecState, start}
use Rattle.g726_bits.specs.contracts.RatePartialEq.TheImpl as rate_eq
use Rattle.g726_codec.specs.contracts.state.EncStatePartialEq.TheImpl as state_eq
use Rattle.enc_group.specs.declared.Group.{Group}
use Rattle.enc_group.specs.declared.Seat.{Seat}

-- what contracts see: what each key has, who sits where in join order, and how many can still be admitted without memory
pub record Grouping : Type 0 where
  pub groups : List (Option Group)
  pub seats : List Seat
  pub spare : ℕ

-- what a key has
abbrev pub group_in : List (Option Group) → ℕ → Option Group
group_in groups key = slice_index_or groups key None

abbrev pub group_at : Grouping → ℕ → Option Group
group_at g key = group_in g.groups key

-- a group is there
abbrev pub IsThere : Grouping → ℕ → Type 0
IsThere g key = IsSome (group_at g key)

-- the seat is in this group
abbrev pub sits : ℕ → Seat → Bool
sits key s = s.key == key

-- the listeners of a group, in join order
abbrev pub members : Grouping → ℕ → List ℕ
members g key = map (λ s. s.listener) (filter (sits key) g.seats)

-- all listeners that are in groups, in join order
abbrev pub order : Grouping → List ℕ
order g = map (λ s. s.listener) g.seats

abbrev pub is_of : ℕ → Seat → Bool
is_of listener s = s.listener == listener

-- the key of the group that a listener is in
abbrev pub key_in : ℕ → List Seat → Option ℕ
key_in listener seats = option_map (λ s. s.key) (find (is_of listener) seats)

abbrev pub key_of : Grouping → ℕ → Option ℕ
key_of g listener = key_in listener g.seats

-- no listener stands twice
abbrev pub EachOnce : List ℕ → Type 0
EachOnce [] = Unit {0}
EachOnce (l ∷ ls) = (list_any (λ m. m == l) ls ≡ false) × EachOnce ls

-- a key has this from now on, and every other key has what it had
pub record Sets (old new : List (Option Group)) (key : ℕ) (group : Option Group) : Type 0 where
  pub here : group_in new key ≡ group
  pub others : (other : ℕ) → other ≢ key → group_in new other ≡ group_in old other

-- the seats without a listener's
abbrev pub without : ℕ → List Seat → List Seat
without listener seats = filter (λ s. not (is_of listener s)) seats

-- a seat once all who sit at one key have moved to another
abbrev pub moved : ℕ → ℕ → Seat → Seat
moved from into s = if sits from s then record { listener = s.listener; key = into } else s

-- whether a group is there and passes a test
abbrev pub passes : (Group → Bool) → Option Group → Bool
passes test None = false
passes test (Some g) = test g

-- the group encodes this tick next
abbrev pub is_at : ℕ → Group → Bool
is_at tick g = g.tick == tick

abbrev pub is_start : Option CodecState → Bool
is_start None = false
is_start (Some s) = (state_eq.ghosts).eq s start

-- the group is of this rate, encodes this tick next, and holds the start state
abbrev pub is_new : Rate → ℕ → Group → Bool
is_new rate tick g = (rate_eq.ghosts).eq g.rate rate && (g.tick == tick) && is_start g.state

-- the least key, not below one, whose group passes a test; none where there is none
abbrev pub IsLeast : (Group → Bool) → List (Option Group) → ℕ → Option ℕ → Type 0
IsLeast test groups from None = (key : ℕ) → from ≤ key → passes test (group_in groups key) ≡ false
IsLeast test groups from (Some key) =
    (from ≤ key) × (passes test (group_in groups key) ≡ true)
    × ((k : ℕ) → from ≤ k → k < key → passes test (group_in groups k) ≡ false)

-- a group is there, with its state in place
abbrev pub IsFull : Option Group → Type 0
IsFull None = ⊥
IsFull (Some g) = IsSome g.state

-- a group is there, with its state lifted
abbrev pub IsVacant : Option Group → Type 0
IsVacant None = ⊥
IsVacant (Some g) = g.state ≡ None

-- two groups may be made one: rate and tick are equal, and the second's place is vacant or the states are equal
abbrev pub MayMerge : Option Group → Option Group → Type 0
MayMerge None b = ⊥
MayMerge (Some a) None = ⊥
MayMerge (Some a) (Some b) = (a.rate ≡ b.rate) × (a.tick ≡ b.tick) × ((b.state ≡ None) ⊎ (a.state ≡ b.state))

-- the key that a listener is let in at: the least one whose group passes the test, or a free one where there is none
abbrev pub IsEntrance : (Group → Bool) → List (Option Group) → ℕ → Type 0
IsEntrance test groups key = IsLeast test groups 0 (Some key) ⊎ (IsLeast test groups 0 None × (group_in groups key ≡ None))

-- where this listener leaves, no group goes while its state is lifted: its group is full, or has another listener
abbrev pub LosesNoJob : Grouping → ℕ → Type 0
LosesNoJob g listener = (key : ℕ) → key_of g listener ≡ Some key → IsFull (group_at g key) ⊎ (list_any (sits key) (without listener g.seats) ≡ true)
