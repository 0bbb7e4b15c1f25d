-- What contracts see of the numbers that were given out and of the runs that wait.
use Rattle.std.specs.Prelude.{◌≡◌, ◌≢◌, ℕ, ◌+◌, ◌<◌, List, ◌∷◌, ◌++◌, length}
use Rattle.g726_codec.specs.declared.Triple.{Triple}
use Rattle.triple_table.specs.Rows.{Row}
use Rattle.conference_spec.specs.Codec.{g726}
use Rattle.conference_spec.specs.Members.{In}
use Rattle.book_lists.specs.declared.seats.Ticket.{Ticket}
use Rattle.book_lists.specs.Levels.{IsAt, placed, tickets}

pub record Queued : Type 0 where
  pub issued : ℕ
  pub tickets : List Ticket
  -- how many tickets can be held without memory
  pub room : ℕ

-- another run's ticket
abbrev pub IsOther : Ticket → Ticket → Type 0
IsOther t s = s.number ≢ t.number

-- a ticket stands where all before it have lower numbers and all after it higher ones
pub record PutBack (old : List Ticket) (t : Ticket) (new : List Ticket) : Type 0 where
  pub front : List Ticket
  pub back : List Ticket
  pub was : old ≡ front ++ back
  pub is : new ≡ front ++ t ∷ back
  pub lower : (s : Ticket) → In s front → s.number < t.number
  pub higher : (s : Ticket) → In s back → t.number < s.number

-- a triple has its run at this place, which is new, with the next number and a ticket, or was there
pub record Places (tick : ℕ) (t : Triple) (rows : List Row) (q : Queued) (rows' : List Row) (q' : Queued) (at : ℕ) : Type 0 where
  pub placing : record { rows = rows'; issued = q'.issued } ≡ placed g726 t (record { rows = rows; issued = q.issued })
  pub there : IsAt rows' at t
  pub more : List Row
  pub grown : rows' ≡ rows ++ more
  pub one : length more < 2
  pub count : q'.issued ≡ q.issued + length more
  pub waiting : q'.tickets ≡ q.tickets ++ tickets tick (length rows) q.issued (length more)
  pub room : q'.room ≡ q.room
