-- What is done with the seats of a tick, one after another.
use Rattle.std.specs.Prelude.{◌≡◌, ℕ, ◌+◌, ◌≤◌, ◌<◌, ◌^◌, Bool, true, false, List, [], ◌∷◌, ◌++◌, length, map, Option, Some, None, is_some, slice_get, if◌then◌else◌, vec_len, vec_capacity}
use Rattle.std.specs.List.{AllZip}
use Rattle.g726_bits.specs.State.{CodecState}
use Rattle.g726_codec.specs.declared.Triple.{Triple}
use Rattle.talk_mix.specs.declared.ticks.Tick.{Tick}
use Rattle.conference_spec.specs.declared.Stage.TheVariants.{Out, Finished}
use Rattle.conference_spec.specs.Codec.{g726}
use Rattle.conference_spec.specs.Members.{Once}
use Rattle.triple_table.specs.Rows.{Row, Rows}
use Rattle.book_lists.specs.declared.seats.Seat.{Seat}
use Rattle.book_lists.specs.declared.seats.Rest.{Rest}
use Rattle.book_lists.specs.declared.seats.Origin.{Origin}
use Rattle.book_lists.specs.declared.seats.Origin.TheVariants.{Known, Earlier}
use Rattle.book_lists.specs.Levels.{Level, placed_for, placed_seats, placed_rest, placed_rests, newly_known, state_of_seat, state_at, tickets, HasFirstRun, TakesRun, BecomesSeat, place_of}
use Rattle.tick_core.specs.declared.seating.Blank.{Blank}
use Rattle.tick_core.specs.Queued.{Queued}

-- how many seats have no run yet
abbrev pub unknown : List Seat → ℕ
unknown [] = 0
unknown (s ∷ ss) = (if is_some s.run then 0 else 1) + unknown ss

-- each run is that of a seat
abbrev pub Fits : Level → Type 0
Fits v = length v.rows + unknown v.seats ≤ length v.seats

-- nothing yet, with room for n listeners
pub record HasRoom (b : Blank) (n : ℕ) : Type 0 where
  pub no_seats : b.seats.items ≡ []
  pub no_seats_len : vec_len b.seats ≡ 0
  pub seats : n ≤ vec_capacity b.seats
  pub no_rows : b.table.rows ≡ []
  pub rows : n ≤ b.table.room

-- the tickets and numbers of rows that were added for tick k
pub record Numbers (k : ℕ) (rows : List Row) (q : Queued) (rows' : List Row) (q' : Queued) : Type 0 where
  pub more : List Row
  pub grown : rows' ≡ rows ++ more
  pub count : q'.issued ≡ q.issued + length more
  pub waiting : q'.tickets ≡ q.tickets ++ tickets k (length rows) q.issued (length more)
  pub room : q'.room ≡ q.room

-- ---- a close ----

-- a present listener has become a seat
pub record GivesFirst (k : ℕ) (tick : Tick) (r : Rest) (known : Option CodecState) (rows : List Row) (q : Queued) (rows' : List Row) (q' : Queued) (s : Seat) : Type 0 where
  pub placing : record { rows = rows'; issued = q'.issued } ≡ placed_rest g726 tick r known (record { rows = rows; issued = q.issued })
  pub spec : s.spec ≡ r.spec
  pub heard : s.heard ≡ r.heard
  pub earlier : s.earlier ≡ place_of r.origin
  pub run : HasFirstRun tick rows' r s.run known
  pub numbers : Numbers k rows q rows' q'
  pub fits : length rows' + unknown (s ∷ []) ≤ length rows + 1

-- all of them, after these open ticks
pub record SeatsClosed (k : ℕ) (tick : Tick) (vs : List Level) (rests : List Rest) (q : Queued) (ss : List Seat) (rows : List Row) (q' : Queued) : Type 0 where
  pub placing : record { rows = rows; issued = q'.issued } ≡ placed_rests g726 tick vs rests (record { rows = []; issued = q.issued })
  pub become : AllZip (BecomesSeat g726 tick vs rows) rests ss
  pub numbers : Numbers k [] q rows q'
  pub fits : length rows + unknown ss ≤ length ss

pub record Closes (k : ℕ) (tick : Tick) (rests : List Rest) (vs : List Level) (q : Queued) (v : Level) (q' : Queued) : Type 0 where
  pub number : v.number ≡ k
  pub talkers : v.talkers ≡ tick
  pub closed : SeatsClosed k tick vs rests q v.seats v.rows q'

-- ---- a publication ----

-- where a state is known, there is room for its run
abbrev pub RoomFor : Option CodecState → Rows → Queued → Type 0
RoomFor None t q = Unit {0}
RoomFor (Some st) t q = (length t.rows < t.room) × (length q.tickets < q.room) × (q.issued < 2 ^ 62)

-- a seat has its run where its state is known now, and `moved` says whether that is finished
pub record GivesRun (k : ℕ) (tick : Tick) (known : Option CodecState) (s : Seat) (rows : List Row) (q : Queued) (s' : Seat) (rows' : List Row) (q' : Queued) (moved : Bool) : Type 0 where
  pub placing : record { rows = rows'; issued = q'.issued } ≡ placed_for g726 tick s known (record { rows = rows; issued = q.issued })
  pub takes : TakesRun tick (λ _. known) rows' s s'
  pub numbers : Numbers k rows q rows' q'
  pub quiet : moved ≡ false → is_some known ≡ true → state_of_seat g726 rows' s'.run ≡ None
  pub fits : s.run ≡ None → length rows' + unknown (s' ∷ []) ≤ length rows + 1
  pub same : known ≡ None → (rows' ≡ rows) × (s' ≡ s)

-- all of them, by the states that the older tick leaves
pub record SeatsPulled (k : ℕ) (tick : Tick) (older : Level) (ss : List Seat) (rows : List Row) (q : Queued) (ss' : List Seat) (rows' : List Row) (q' : Queued) (moved : Bool) : Type 0 where
  pub placing : record { rows = rows'; issued = q'.issued } ≡ placed_seats g726 tick (newly_known g726 older) ss (record { rows = rows; issued = q.issued })
  pub takes : AllZip (TakesRun tick (newly_known g726 older) rows') ss ss'
  pub numbers : Numbers k rows q rows' q'
  pub quiet : moved ≡ false → AllZip (λ s s'. is_some (newly_known g726 older s) ≡ true → state_of_seat g726 rows' s'.run ≡ None) ss ss'
  pub fits : length rows' + unknown ss' ≤ length rows + unknown ss
  pub as_many : length ss' ≡ length ss

pub record Pulled (older v : Level) (q : Queued) (v' : Level) (q' : Queued) (moved : Bool) : Type 0 where
  pub number : v'.number ≡ v.number
  pub talkers : v'.talkers ≡ v.talkers
  pub pulled : SeatsPulled v.number v.talkers older v.seats v.rows q v'.seats v'.rows q' moved

-- ---- single runs ----

-- the place of a run that is out, by its number and its triple
abbrev pub IsOutAt : Level → ℕ → Triple → Option ℕ → Type 0
IsOutAt v n t (Some at) = (r : Row) × (slice_get v.rows at ≡ Some r) × (r.number ≡ n) × (r.triple ≡ t) × (r.stage ≡ Out)
IsOutAt v n t None =
    Once (map (λ r. r.triple) v.rows) → (r : Row) (at : ℕ) → slice_get v.rows at ≡ Some r → r.number ≡ n → r.triple ≡ t → r.stage ≡ Out → ⊥

-- ---- a collect ----

-- the seat's run is finished
pub record IsServed (rows : List Row) (s : Seat) : Type 0 where
  pub at : ℕ
  pub row : Row
  pub run : s.run ≡ Some at
  pub there : slice_get rows at ≡ Some row
  pub finished : row.stage ≡ Finished

-- the state that a seat's run leaves, if it is finished
abbrev pub settled_origin : Option CodecState → Origin → Origin
settled_origin None o = o
settled_origin (Some st) o = Known st

abbrev pub origin_after : Level → Origin → Origin
origin_after v (Known st) = Known st
origin_after v (Earlier i) = settled_origin (state_at g726 v i) (Earlier i)

pub record Settled (v : Level) (r r' : Rest) : Type 0 where
  pub spec : r'.spec ≡ r.spec
  pub heard : r'.heard ≡ r.heard
  pub origin : r'.origin ≡ origin_after v r.origin

-- where no tick is open any more, those who are present are settled
abbrev pub SettledAfter : List Level → Level → List Rest → List Rest → Type 0
SettledAfter [] v rests rests' = AllZip (Settled v) rests rests'
SettledAfter (w ∷ vs) v rests rests' = rests' ≡ rests
