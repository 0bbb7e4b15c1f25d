-- What is done with the open ticks after a publication.
use Rattle.std.specs.Prelude.{◌≡◌, ℕ, ◌+◌, ◌≤◌, Bool, List, [], ◌∷◌, ◌++◌, length, take, drop}
use Rattle.conference_spec.specs.Codec.{g726}
use Rattle.book_lists.specs.Levels.{Level, Sweeps, new_tickets}
use Rattle.tick_core.specs.Queued.{Queued}
use Rattle.tick_core.specs.Opened.{Fits, unknown}

-- each tick has no more runs than seats that have one
abbrev pub AllFit : List Level → Type 0
AllFit [] = Unit {0}
AllFit (v ∷ vs) = Fits v × AllFit vs

-- how many seats have no run yet
abbrev pub all_unknown : List Level → ℕ
all_unknown [] = 0
all_unknown (v ∷ vs) = unknown v.seats + all_unknown vs

-- how many seats there are
abbrev pub all_seats : List Level → ℕ
all_seats [] = 0
all_seats (v ∷ vs) = length v.seats + all_seats vs

-- how many runs there are
abbrev pub all_rows : List Level → ℕ
all_rows [] = 0
all_rows (v ∷ vs) = length v.rows + all_rows vs

-- the newer ticks have taken what the published one, the last of them, set going
pub record Swept (vs : List Level) (q : Queued) (vs' : List Level) (q' : Queued) (moved : Bool) : Type 0 where
  pub sweeps : Sweeps g726 vs q.issued vs' q'.issued moved
  pub waiting : q'.tickets ≡ q.tickets ++ new_tickets vs vs' q.issued
  pub count : q'.issued ≡ q.issued + length (new_tickets vs vs' q.issued)
  pub room : q'.room ≡ q.room
  pub fit : AllFit vs'
  pub seats : all_seats vs' ≡ all_seats vs
  pub fewer : length (new_tickets vs vs' q.issued) + all_unknown vs' ≤ all_unknown vs
  pub as_many : length vs' ≡ length vs

-- the ticks up to a place were swept, and those behind it stayed
pub record SweptFrom (place : ℕ) (vs : List Level) (q : Queued) (vs' : List Level) (q' : Queued) : Type 0 where
  pub front : List Level
  pub moved : Bool
  pub swept : Swept (take (place + 1) vs) q front q' moved
  pub is : vs' ≡ front ++ drop (place + 1) vs
