-- What the Book's open ticks and present listeners stand for.
use Rattle.std.specs.Prelude.{zero, suc, ◌-◌, ◌⊎◌, ◌≡◌, ℕ, ◌+◌, ◌≤◌, ◌<◌, Bool, true, false, List, [], ◌∷◌, ◌++◌, length, map, Option, Some, None, is_some, slice_get, MatchBool, if◌then◌else◌, option_and_then}
use Rattle.std.specs.List.{list_any, list_all, AllZip}
use Rattle.g726_bits.specs.State.{CodecState}
use Rattle.g726_codec.specs.declared.Triple.{Triple}
use Rattle.talk_mix.specs.declared.ticks.Tick.{Tick}
use Rattle.talk_mix.specs.Mix.{mix}
use Rattle.triple_table.specs.Rows.{Row}
use Rattle.conference_spec.specs.declared.Entry.TheVariants.{Close}
use Rattle.conference_spec.specs.declared.Stage.TheVariants.{Waiting}
use Rattle.conference_spec.specs.declared.Task.{Task}
use Rattle.conference_spec.specs.Coding.{Coder, after}
use Rattle.conference_spec.specs.Feed.{Feed, Listener, listeners, hears, closes, collects}
use Rattle.conference_spec.specs.Tasks.{task_of, tasks_of}
use Rattle.conference_spec.specs.Machine.{Run, Core, waits, is_finished, has_passed}
use Rattle.conference_spec.specs.Members.{In, Once}
use Rattle.book_lists.specs.declared.seats.Seat.{Seat}
use Rattle.book_lists.specs.declared.seats.Rest.{Rest}
use Rattle.book_lists.specs.declared.seats.Ticket.{Ticket}
use Rattle.book_lists.specs.declared.seats.Origin.{Origin}
use Rattle.book_lists.specs.declared.seats.Origin.TheVariants.{Known, Earlier}

-- an open tick: its number, its talkers, its listeners' seats and its table's rows
pub record Level : Type 0 where
  pub number : ℕ
  pub talkers : Tick
  pub seats : List Seat
  pub rows : List Row

-- ---- runs ----

abbrev pub run_of : ℕ → Row → Run
run_of k r = record { number = r.number; task = record { tick = k; triple = r.triple }; stage = r.stage }

abbrev pub level_runs : Level → List Run
level_runs v = map (run_of v.number) v.rows

-- the runs of the open ticks, which are given with the newest first
abbrev pub all_runs : List Level → List Run
all_runs [] = []
all_runs (v ∷ vs) = all_runs vs ++ level_runs v

-- no table has a triple twice
abbrev pub LevelsOnce : List Level → Type 0
LevelsOnce [] = Unit {0}
LevelsOnce (v ∷ vs) = Once (map (λ r. r.triple) v.rows) × LevelsOnce vs

-- the level with other rows
abbrev pub with_rows : Level → List Row → Level
with_rows v rows = record { number = v.number; talkers = v.talkers; seats = v.seats; rows = rows }

-- each run of the tick is finished
abbrev pub all_finished : List Row → Bool
all_finished rows = list_all (λ r. is_finished r.stage) rows

-- ---- states ----

-- the row at this place is of this triple
pub record IsAt (rows : List Row) (at : ℕ) (t : Triple) : Type 0 where
  pub row : Row
  pub there : slice_get rows at ≡ Some row
  pub same : row.triple ≡ t

-- a seat has its run just where its listener has passed all its ticks before
abbrev pub Knows : Bool → Option ℕ → List Row → Triple → Type 0
Knows true (Some at) rows t = IsAt rows at t
Knows true None rows t = ⊥
Knows false (Some at) rows t = ⊥
Knows false None rows t = Unit {0}

-- the listener is what that at this place of the newest closed tick is after it
abbrev pub IsNewest : Coder → Feed → ℕ → Listener → Type 0
IsNewest coder [] i l = ⊥
IsNewest coder (Close tick ∷ h) i l = (m : Listener) × (slice_get (listeners coder h) i ≡ Some m) × (hears tick m ≡ l)
IsNewest coder (e ∷ h) i l = IsNewest coder h i l

-- where a listener was at the tick before, or that none of its ticks is open
abbrev pub CameFrom : Coder → ℕ → Feed → Option ℕ → Listener → Type 0
CameFrom coder gone h None l = (x : Task) → In x (tasks_of coder l) → x.tick < gone
CameFrom coder gone h (Some i) l = IsNewest coder h i l

-- the seat is this listener's, at tick k after this feed
pub record Sits (coder : Coder) (gone : ℕ) (runs : List Run) (rows : List Row) (k : ℕ) (tick : Tick) (h : Feed) (s : Seat) (l : Listener) : Type 0 where
  pub spec : s.spec ≡ l.spec
  pub heard : s.heard ≡ length l.heard
  pub run : Knows (has_passed coder gone runs l) s.run rows (task_of coder k tick l).triple
  pub came : CameFrom coder gone h s.earlier l

-- ---- levels over a feed ----

-- an open tick stands for a close after this feed
pub record IsLevel (coder : Coder) (gone : ℕ) (runs : List Run) (v : Level) (tick : Tick) (h : Feed) : Type 0 where
  pub open' : gone ≤ closes h
  pub number : v.number ≡ closes h
  pub talkers : v.talkers ≡ tick
  pub seats : AllZip (Sits coder gone runs v.rows (closes h) tick h) v.seats (listeners coder h)

-- the open ticks are those of the feed that aren't collected, the newest first
abbrev pub Opens : Coder → ℕ → List Run → List Level → Feed → Type 0
Opens coder gone runs [] h = closes h ≤ gone
Opens coder gone runs (v ∷ vs) [] = ⊥
Opens coder gone runs (v ∷ vs) (Close tick ∷ h) = IsLevel coder gone runs v tick h × Opens coder gone runs vs h
Opens coder gone runs (v ∷ vs) (e ∷ h) = Opens coder gone runs (v ∷ vs) h

-- where a present listener's state is
abbrev pub OriginIs : Coder → ℕ → Feed → Origin → Listener → Type 0
OriginIs coder gone h (Known s) l = CameFrom coder gone h None l × (s ≡ after coder l.spec.rate l.first l.heard)
OriginIs coder gone h (Earlier i) l = IsNewest coder h i l × (gone < closes h)

pub record Rests (coder : Coder) (gone : ℕ) (h : Feed) (r : Rest) (l : Listener) : Type 0 where
  pub spec : r.spec ≡ l.spec
  pub heard : r.heard ≡ length l.heard
  pub origin : OriginIs coder gone h r.origin l

-- ---- what is placed ----

abbrev pub has_row : Coder → List Row → Triple → Bool
has_row coder rows t = list_any (λ r. coder.is_same r.triple t) rows

-- the rows of a table and how many numbers were issued
pub record Placing : Type 0 where
  pub rows : List Row
  pub issued : ℕ

-- a triple that has no row gets the next number
abbrev pub placed : Coder → Triple → Placing → Placing
placed coder t p =
    if has_row coder p.rows t
    then p
    else record { rows = p.rows ++ record { triple = t; number = p.issued + 1; stage = Waiting } ∷ []; issued = p.issued + 1 }

-- the state that a finished row leaves
abbrev pub state_of_row : Coder → Row → Option CodecState
state_of_row coder r =
    if is_finished r.stage then Some (coder.encoded r.triple.rate r.triple.state r.triple.mix).0 else None

-- the state that a seat's listener has after its tick, where the seat's run is finished
abbrev pub state_of_seat : Coder → List Row → Option ℕ → Option CodecState
state_of_seat coder rows None = None
state_of_seat coder rows (Some at) = option_and_then (state_of_row coder) (slice_get rows at)

abbrev pub state_at : Coder → Level → ℕ → Option CodecState
state_at coder v i = option_and_then (λ s. state_of_seat coder v.rows s.run) (slice_get v.seats i)

-- the state that a seat is to take from the tick before, where it has none yet
abbrev pub newly_known : Coder → Level → Seat → Option CodecState
newly_known coder older s = if is_some s.run then None else option_and_then (state_at coder older) s.earlier

-- the triple of a seat in this state
abbrev pub triple_at : Tick → Seat → CodecState → Triple
triple_at tick s st = record { rate = s.spec.rate; state = st; mix = mix s.spec.member tick }

-- what the seats that have come to a state are given: each triple in turn, placed
abbrev pub placed_for : Coder → Tick → Seat → Option CodecState → Placing → Placing
placed_for coder tick s None p = p
placed_for coder tick s (Some st) p = placed coder (triple_at tick s st) p

abbrev pub placed_seats : Coder → Tick → (Seat → Option CodecState) → List Seat → Placing → Placing
placed_seats coder tick known [] p = p
placed_seats coder tick known (s ∷ ss) p = placed_seats coder tick known ss (placed_for coder tick s (known s) p)

abbrev pub HasRunOf : Tick → List Row → Seat → Seat → Option CodecState → Type 0
HasRunOf tick rows s s' None = s'.run ≡ s.run
HasRunOf tick rows s s' (Some st) = (at : ℕ) × (s'.run ≡ Some at) × IsAt rows at (triple_at tick s st)

-- a seat that has come to a state has the run of its triple; all else is as it was
pub record TakesRun (tick : Tick) (known : Seat → Option CodecState) (rows : List Row) (s s' : Seat) : Type 0 where
  pub spec : s'.spec ≡ s.spec
  pub heard : s'.heard ≡ s.heard
  pub earlier : s'.earlier ≡ s.earlier
  pub run : HasRunOf tick rows s s' (known s)

-- ---- what a publication sets going ----

-- a level takes states from the one before it: `moved` is false only where no seat that came to a state is past its tick
pub record Pulls (coder : Coder) (older v : Level) (n : ℕ) (v' : Level) (n' : ℕ) (moved : Bool) : Type 0 where
  pub number : v'.number ≡ v.number
  pub talkers : v'.talkers ≡ v.talkers
  pub placing : record { rows = v'.rows; issued = n' } ≡ placed_seats coder v.talkers (newly_known coder older) v.seats (record { rows = v.rows; issued = n })
  pub seats : AllZip (TakesRun v.talkers (newly_known coder older) v'.rows) v.seats v'.seats
  pub quiet : moved ≡ false → AllZip (λ s s'. is_some (newly_known coder older s) ≡ true → state_of_seat coder v'.rows s'.run ≡ None) v.seats v'.seats

-- from the published tick, the last of these, each newer one takes states as long as anything moves
abbrev pub Sweeps : Coder → List Level → ℕ → List Level → ℕ → Bool → Type 0
Sweeps coder [] n new n' moved = ⊥
Sweeps coder (v ∷ []) n new n' moved = (new ≡ v ∷ []) × (n' ≡ n) × (moved ≡ true)
Sweeps coder (v ∷ u ∷ us) n new n' moved =
    (v' u' : Level) × (us' : List Level) × (m : ℕ) × (was : Bool) × (new ≡ v' ∷ u' ∷ us') × Sweeps coder (u ∷ us) n (u' ∷ us') m was
    × MatchBool was (Pulls coder u' v m v' n' moved) ((v' ≡ v) × (n' ≡ m) × (moved ≡ false))

-- ---- what a close sets going ----

abbrev pub place_of : Origin → Option ℕ
place_of (Known s) = None
place_of (Earlier i) = Some i

-- the state that a present listener is known to be in
abbrev pub state_of_rest : Coder → List Level → Origin → Option CodecState
state_of_rest coder vs (Known s) = Some s
state_of_rest coder [] (Earlier i) = None
state_of_rest coder (v ∷ vs) (Earlier i) = state_at coder v i

abbrev pub triple_of_rest : Tick → Rest → CodecState → Triple
triple_of_rest tick r st = record { rate = r.spec.rate; state = st; mix = mix r.spec.member tick }

abbrev pub placed_rest : Coder → Tick → Rest → Option CodecState → Placing → Placing
placed_rest coder tick r None p = p
placed_rest coder tick r (Some st) p = placed coder (triple_of_rest tick r st) p

abbrev pub placed_rests : Coder → Tick → List Level → List Rest → Placing → Placing
placed_rests coder tick vs [] p = p
placed_rests coder tick vs (r ∷ rs) p = placed_rests coder tick vs rs (placed_rest coder tick r (state_of_rest coder vs r.origin) p)

abbrev pub HasFirstRun : Tick → List Row → Rest → Option ℕ → Option CodecState → Type 0
HasFirstRun tick rows r run None = run ≡ None
HasFirstRun tick rows r run (Some st) = (at : ℕ) × (run ≡ Some at) × IsAt rows at (triple_of_rest tick r st)

-- a present listener's seat at the tick that is closed
pub record BecomesSeat (coder : Coder) (tick : Tick) (vs : List Level) (rows : List Row) (r : Rest) (s : Seat) : Type 0 where
  pub spec : s.spec ≡ r.spec
  pub heard : s.heard ≡ r.heard
  pub earlier : s.earlier ≡ place_of r.origin
  pub run : HasFirstRun tick rows r s.run (state_of_rest coder vs r.origin)

-- after a close: one tick more was heard, and the state is what the seat's run leaves
abbrev pub rests_after : ℕ → List Rest → List Rest
rests_after j [] = []
rests_after j (r ∷ rs) = record { spec = r.spec; heard = r.heard + 1; origin = Earlier j } ∷ rests_after (j + 1) rs

-- after the only open tick is collected: each state is known
abbrev pub settled : Coder → Level → Origin → Origin → Type 0
settled coder v (Known s) o = o ≡ Known s
settled coder v (Earlier i) o = (s : CodecState) × (state_at coder v i ≡ Some s) × (o ≡ Known s)

pub record Settles (coder : Coder) (v : Level) (r r' : Rest) : Type 0 where
  pub spec : r'.spec ≡ r.spec
  pub heard : r'.heard ≡ r.heard
  pub origin : settled coder v r.origin r'.origin

-- ---- the runs that wait ----

-- the level has a waiting row for this ticket
pub record HasTicket (v : Level) (t : Ticket) : Type 0 where
  pub tick : v.number ≡ t.tick
  pub row : Row
  pub there : slice_get v.rows t.at ≡ Some row
  pub number : row.number ≡ t.number
  pub waiting : row.stage ≡ Waiting

-- some level has
abbrev pub IsTicket : List Level → Ticket → Type 0
IsTicket [] t = ⊥
IsTicket (v ∷ vs) t = HasTicket v t ⊎ IsTicket vs t

-- numbers rise, from above low
abbrev pub TicketsRise : ℕ → List Ticket → Type 0
TicketsRise low [] = Unit {0}
TicketsRise low (t ∷ ts) = (low < t.number) × TicketsRise t.number ts

-- the queue has each waiting run, by rising number
pub record IsQueue (queue : List Ticket) (vs : List Level) (runs : List Run) : Type 0 where
  pub rise : TicketsRise 0 queue
  pub each : (t : Ticket) → In t queue → IsTicket vs t
  pub all : (r : Run) → In r runs → waits r.stage ≡ true → In r.number (map (λ t. t.number) queue)

-- the tickets of rows that were put at the end, from this place and after this number
abbrev pub tickets : ℕ → ℕ → ℕ → ℕ → List Ticket
tickets tick at n zero = []
tickets tick at n (suc count) = record { number = n + 1; tick = tick; at = at } ∷ tickets tick (at + 1) (n + 1) count

-- the tickets of all rows that levels got, from the oldest on
abbrev pub new_tickets : List Level → List Level → ℕ → List Ticket
new_tickets [] new n = []
new_tickets (v ∷ vs) [] n = []
new_tickets (v ∷ vs) (v' ∷ vs') n =
    let older = new_tickets vs vs' n in
    older ++ tickets v.number (length v.rows) (n + length older) (length v'.rows - length v.rows)

-- ---- all of it ----

-- the same runs in both
abbrev pub SameRuns : List Run → List Run → Type 0
SameRuns xs ys = (r : Run) → (In r xs → In r ys) × (In r ys → In r xs)

-- open ticks, present listeners, waiting runs and the meter stand for a core
pub record Carries (coder : Coder) (vs : List Level) (rests : List Rest) (waiting : List Ticket) (issued : ℕ) (c : Core) : Type 0 where
  pub opens : Opens coder (collects c.feed) c.runs vs c.feed
  pub present : AllZip (Rests coder (collects c.feed) c.feed) rests (listeners coder c.feed)
  pub runs : SameRuns c.runs (all_runs vs)
  pub once : LevelsOnce vs
  pub queue : IsQueue waiting vs c.runs
  pub issued_is : issued ≡ c.issued
