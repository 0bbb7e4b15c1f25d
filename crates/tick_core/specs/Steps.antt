-- What the parts of a Book's calls do with its lists.
use Rattle.std.specs.Prelude.{◌≡◌, ℕ, ◌+◌, ◌-◌, ◌≤◌, ◌<◌, true, false, List, [], ◌∷◌, ◌++◌, length, Option, Some, None, slice_get, slice_set, vec_len, vec_capacity}
use Rattle.talk_mix.specs.declared.ticks.Tick.{Tick}
use Rattle.conference_spec.specs.declared.Entry.{Entry}
use Rattle.conference_spec.specs.declared.Entry.TheVariants.{Close, Collect}
use Rattle.std.specs.Global.{Vec}
use Rattle.conference_spec.specs.declared.Packet.{Packet}
use Rattle.conference_spec.specs.declared.Stage.TheVariants.{Out}
use Rattle.conference_spec.specs.Codec.{g726}
use Rattle.conference_spec.specs.Feed.{ended, collects}
use Rattle.conference_spec.specs.Packets.{sent}
use Rattle.conference_spec.specs.Machine.{Core, Run, Enters, accepts, next, next_waiting, holds_out}
use Rattle.conference_spec.specs.Machine.{Claim as claims}
use Rattle.book_feed.specs.Logged.{with_entry, closed_in}
use Rattle.triple_table.specs.Rows.{Row, staged}
use Rattle.book_lists.specs.declared.seats.Ticket.{Ticket}
use Rattle.book_lists.specs.Levels.{Level, HasTicket, with_rows, rests_after, all_finished}
use Rattle.tick_core.specs.declared.book.Book.{Book}
use Rattle.tick_core.specs.declared.seating.Blank.{Blank}
use Rattle.tick_core.specs.Held.{Held, Sent}
use Rattle.tick_core.specs.Opened.{HasRoom, Closes}
use Rattle.tick_core.specs.Sweeping.{all_seats}
use Rattle.tick_core.specs.Standing.{StandsOn}

-- ---- what is said of the core that a Book went on as ----

abbrev pub IsKnownOn : Book → Type 0
IsKnownOn b = (c : Core) × StandsOn b c

abbrev pub BeforeEndOn : Book → Type 0
BeforeEndOn b = (c : Core) × StandsOn b c × (ended c.feed ≡ false)

abbrev pub TakesOn : Book → Book → Entry → Type 0
TakesOn old new e = (c : Core) → StandsOn old c → (accepts g726 c e ≡ true) × StandsOn new (next g726 c (Enters e))

abbrev pub KeepsOn : Book → Book → Type 0
KeepsOn old new = (c : Core) → StandsOn old c → StandsOn new c

abbrev pub ClaimsOn : Held → Book → Core → Type 0
ClaimsOn j new c =
    (r : Run) × (next_waiting c.runs ≡ Some r) × (j ≡ record { number = r.number; task = r.task }) × StandsOn new (next g726 c claims)

abbrev pub CollectsOn : Sent → Book → Core → Type 0
CollectsOn p new c =
    (accepts g726 c Collect ≡ true) × (p.tick ≡ collects c.feed) × (p.packets ≡ sent g726 (collects c.feed) c.feed)
    × StandsOn new (next g726 c (Enters Collect))

-- ---- the parts ----

-- the memory for a tick is there, and the close stands in the feed
pub record IsReady (old : Book) (tick : Tick) (new : Book) (blank : Blank) : Type 0 where
  pub feed : new.log.feed ≡ with_entry (Close tick) old.log.feed
  pub entries : length old.present.items + length old.open_ticks.items + 1 ≤ new.log.room
  pub open' : new.open_ticks.items ≡ old.open_ticks.items
  pub place : vec_len new.open_ticks < vec_capacity new.open_ticks
  pub present : new.present.items ≡ old.present.items
  pub queue : (new.queue.tickets ≡ old.queue.tickets) × (new.queue.issued ≡ old.queue.issued)
  pub tickets : all_seats old.open_ticks.items + length old.present.items ≤ new.queue.room
  pub room : HasRoom blank (length old.present.items)
  pub outbox : new.outbox ≡ old.outbox
  pub packets : Vec Packet
  pub rooms : new.rooms.items ≡ packets ∷ old.rooms.items
  pub packets_none : (packets.items ≡ []) × (vec_len packets ≡ 0)
  pub packets_room : length old.outbox.items ≤ vec_capacity packets
  pub stays : new.stays ≡ old.stays

-- a tick was put before the others, with a seat for each present listener
pub record OpensTick (number : ℕ) (tick : Tick) (old new : Book) : Type 0 where
  pub level : Level
  pub open' : new.open_ticks.items ≡ level ∷ old.open_ticks.items
  pub present : new.present.items ≡ rests_after 0 old.present.items
  pub closes' : Closes number tick old.present.items old.open_ticks.items old.queue level new.queue
  pub outbox : new.outbox ≡ old.outbox
  pub rooms : new.rooms ≡ old.rooms
  pub stays : new.stays ≡ old.stays

-- the open tick of a ticket, at the place that its number tells
pub record HasTicketAt (b : Book) (t : Ticket) : Type 0 where
  pub level : Level
  pub there : slice_get b.open_ticks.items (closed_in b.log.feed - 1 - t.tick) ≡ Some level
  pub early : t.tick < closed_in b.log.feed
  pub ticket : HasTicket level t

-- the run of a ticket is out, and all else is as it was
pub record TakesRunOut (old : Book) (t : Ticket) (new : Book) (j : Held) : Type 0 where
  pub level : Level
  pub there : slice_get old.open_ticks.items (closed_in old.log.feed - 1 - t.tick) ≡ Some level
  pub ticket : HasTicket level t
  pub job : j ≡ record { number = t.number; task = record { tick = t.tick; triple = ticket.row.triple } }
  pub open' : new.open_ticks.items ≡ slice_set old.open_ticks.items (closed_in old.log.feed - 1 - t.tick) (with_rows level (slice_set level.rows t.at (staged ticket.row Out)))
  pub log : new.log ≡ old.log
  pub present : new.present ≡ old.present
  pub queue : new.queue ≡ old.queue
  pub outbox : new.outbox ≡ old.outbox
  pub rooms : new.rooms ≡ old.rooms
  pub stays : new.stays ≡ old.stays

-- the run of this number and task is out, at this place of this open tick
pub record IsOutThere (b : Book) (d : Held) (place at : ℕ) : Type 0 where
  pub level : Level
  pub there : slice_get b.open_ticks.items place ≡ Some level
  pub tick : level.number ≡ d.task.tick
  pub row : Row
  pub run : slice_get level.rows at ≡ Some row
  pub number : row.number ≡ d.number
  pub triple : row.triple ≡ d.task.triple
  pub stage : row.stage ≡ Out

-- the place of a run that is out
abbrev pub FindsOut : Book → Held → Option (ℕ × ℕ) → Type 0
FindsOut b d (Some p) = IsOutThere b d p.0 p.1
FindsOut b d None = (c : Core) → StandsOn b c → holds_out g726 c.runs d.number d.task ≡ false

-- the oldest open tick has only finished runs
pub record IsOldestOver (vs : List Level) : Type 0 where
  pub front : List Level
  pub oldest : Level
  pub are : vs ≡ front ++ oldest ∷ []
  pub over : all_finished oldest.rows ≡ true
