-- How the tables of a room stand for the commands before, and what a join and a leave do to them.
use Rattle.std.specs.Prelude.{◌≡◌, ℕ, ◌+◌, ◌==◌, ◌||◌, ◌&&◌, false, not, nat_eq, if◌then◌else◌, List, [], ◌∷◌, length, Option, None, Some, is_some}
use Rattle.std.specs.HashMap as map_of
use Rattle.std.specs.HashSet as set_of
use Rattle.roster_text.specs.declared.commands.Timed.{Timed}
use Rattle.roster_text.specs.declared.seat.Seat.{Seat}
use Rattle.roster_text.specs.declared.room.Room.{Room}
use Rattle.roster_text.specs.Places.{has, is_number, passes, present, joined, talking, listening}

-- the seat of a member
abbrev pub seat_in : ℕ → List Seat → Option Seat
seat_in q [] = None
seat_in q (s ∷ seats) = if s.member == q then Some s else seat_in q seats

-- no two of the seats have this number in common
abbrev pub AreApart : (Seat → Option ℕ) → List Seat → Type 0
AreApart number [] = Unit {0}
AreApart number (s ∷ seats) = (passes (λ n. has number n seats) (number s) ≡ false) × AreApart number seats

-- how the tables stand for the commands before
pub record Keeps (room : Room) (past : List Timed) : Type 0 where
  pub joiners : (q : ℕ) → set_of.contains nat_eq room.joined q ≡ joined q past
  pub seats : (q : ℕ) → map_of.get nat_eq room.seats q ≡ seat_in q (present past)
  pub count : map_of.hash_map_len room.seats ≡ length (present past)
  pub talkers : (q : ℕ) → set_of.contains nat_eq room.talking q ≡ talking q (present past)
  pub listeners : (q : ℕ) → set_of.contains nat_eq room.listening q ≡ listening q (present past)
  pub members_apart : AreApart (λ s. Some s.member) (present past)
  pub talkers_apart : AreApart (λ s. s.talk) (present past)
  pub listeners_apart : AreApart (λ s. s.listen) (present past)

-- one more member sits, and no other seat changes
pub record Adds (old new : Room) (seat : Seat) : Type 0 where
  pub joiners : (q : ℕ) → set_of.contains nat_eq new.joined q ≡ (seat.member == q || set_of.contains nat_eq old.joined q)
  pub seats : (q : ℕ) → map_of.get nat_eq new.seats q ≡ (if seat.member == q then Some seat else map_of.get nat_eq old.seats q)
  pub count : map_of.get nat_eq old.seats seat.member ≡ None → map_of.hash_map_len new.seats ≡ map_of.hash_map_len old.seats + 1
  pub talkers : (q : ℕ) → set_of.contains nat_eq new.talking q ≡ (is_number q seat.talk || set_of.contains nat_eq old.talking q)
  pub listeners : (q : ℕ) → set_of.contains nat_eq new.listening q ≡ (is_number q seat.listen || set_of.contains nat_eq old.listening q)

-- the SSRCs of a seat, if there is one
abbrev pub talk_at : Option Seat → Option ℕ
talk_at None = None
talk_at (Some seat) = seat.talk

abbrev pub listen_at : Option Seat → Option ℕ
listen_at None = None
listen_at (Some seat) = seat.listen

-- the seat of a member is taken away, and no other seat changes
pub record Drops (old new : Room) (m : ℕ) : Type 0 where
  pub joiners : (q : ℕ) → set_of.contains nat_eq new.joined q ≡ set_of.contains nat_eq old.joined q
  pub seats : (q : ℕ) → map_of.get nat_eq new.seats q ≡ (if m == q then None else map_of.get nat_eq old.seats q)
  pub count : map_of.hash_map_len new.seats + (if is_some (map_of.get nat_eq old.seats m) then 1 else 0) ≡ map_of.hash_map_len old.seats
  pub talkers : (q : ℕ) → set_of.contains nat_eq new.talking q ≡ (not (is_number q (talk_at (map_of.get nat_eq old.seats m))) && set_of.contains nat_eq old.talking q)
  pub listeners : (q : ℕ) → set_of.contains nat_eq new.listening q ≡ (not (is_number q (listen_at (map_of.get nat_eq old.seats m))) && set_of.contains nat_eq old.listening q)
