-- What a Book stands for, and what its calls say of that.
use Rattle.std.specs.Prelude.{◌≡◌, ◌+◌, ◌≤◌, true, false, not, List, [], ◌∷◌, length, filter, Result, Ok, Err, None, Some, ℕ, vec_capacity}
use Rattle.conference_spec.specs.declared.Entry.{Entry}
use Rattle.conference_spec.specs.declared.Entry.TheVariants.{Collect, Cut}
use Rattle.conference_spec.specs.declared.Stay.{Stay}
use Rattle.conference_spec.specs.Codec.{g726}
use Rattle.conference_spec.specs.Feed.{Feed, ended, closes, collects, cut, is_legal}
use Rattle.conference_spec.specs.Base.{AreTwins, base}
use Rattle.conference_spec.specs.Packets.{sent}
use Rattle.conference_spec.specs.Machine.{Core, Run, Enters, Publish, GiveBack, next, accepts, next_waiting, holds_out, is_finished}
use Rattle.conference_spec.specs.Machine.{Claim as claims}
use Rattle.conference_spec.specs.Members.{Kept}
use Rattle.book_feed.specs.Logged.{KeptFeed}
use Rattle.book_lists.specs.Levels.{Carries}
use Rattle.tick_core.specs.declared.book.Book.{Book}
use Rattle.tick_core.specs.declared.jobs.Claim.{Claim}
use Rattle.tick_core.specs.declared.jobs.Claim.TheVariants.{Job, Idle, Over}
use Rattle.tick_core.specs.declared.faults.NotYet.{NotYet}
use Rattle.tick_core.specs.Held.{Held, Sent}
use Rattle.tick_core.specs.Posting.{Posts}
use Rattle.tick_core.specs.Sweeping.{AllFit, all_seats}

-- what was done since the last cut
abbrev pub since_cut : Feed → Feed
since_cut [] = []
since_cut (Cut ∷ h) = []
since_cut (e ∷ h) = e ∷ since_cut h

-- the feeds have one base, up to their last cuts or to their starts, and the same entries since
pub record HaveOneBase (g h : Feed) : Type 0 where
  pub base : base g726 (cut g) ≡ base g726 (cut h)
  pub since : since_cut g ≡ since_cut h
  pub legal : is_legal g726 (cut h) ≡ true

-- a log and what a cut kept are those of this feed: its base up to its last cut, and its entries since
pub record Follows (k : KeptFeed) (stays : List Stay) (h : Feed) : Type 0 where
  pub base : record { entries = k.entries; closed = k.closed; runs = k.runs; members = k.members; stays = stays } ≡ base g726 (cut h)
  pub since : k.since ≡ since_cut h
  pub legal : is_legal g726 (cut h) ≡ true

-- there is room for the tickets of all runs to come, for the leaves and collects to come, and for what a cut keeps
pub record IsRoomy (b : Book) : Type 0 where
  pub fit : AllFit b.open_ticks.items
  pub tickets : all_seats b.open_ticks.items ≤ b.queue.room
  pub entries : length b.present.items + length b.open_ticks.items ≤ b.log.room
  pub stays : length b.outbox.items ≤ vec_capacity b.stays

-- the Book has gone on from this feed's last cut as the core has
pub record StandsOn (b : Book) (c : Core) : Type 0 where
  pub feed : Follows b.log.feed b.stays.items c.feed
  pub carries : Carries g726 b.open_ticks.items b.present.items b.queue.tickets b.queue.issued c
  pub posts : Posts b.rooms.items b.outbox.items c.feed
  pub kept : Kept g726 c
  pub roomy : IsRoomy b

-- The Book stands for this core: it has gone on as a core did whose feed has the same base, up to a cut or to its start, and
-- the same entries since.
pub record Stands (b : Book) (c : Core) : Type 0 where
  pub on : Core
  pub is : StandsOn b on
  pub old : Feed
  pub other : Feed
  pub since : Feed
  pub twins : AreTwins g726 old other since on c

-- it stands for some core
abbrev pub IsKnown : Book → Type 0
IsKnown b = (c : Core) × Stands b c

-- and the end hasn't come
abbrev pub BeforeEnd : Book → Type 0
BeforeEnd b = (c : Core) × Stands b c × (ended c.feed ≡ false)

-- each tick that was closed is collected
abbrev pub IsCollected : Book → Type 0
IsCollected b = (c : Core) × Stands b c × (collects c.feed ≡ closes c.feed)

-- it may be cut: each tick that was closed is collected, one was closed since the last cut, and the end hasn't come
abbrev pub CanCut : Book → Type 0
CanCut b = (c : Core) × Stands b c × (accepts g726 c Cut ≡ true)

-- the feed could take the entry, and has taken it
abbrev pub Takes : Book → Book → Entry → Type 0
Takes old new e = (c : Core) → Stands old c → (accepts g726 c e ≡ true) × Stands new (next g726 c (Enters e))

-- nothing has changed
abbrev pub Keeps : Book → Book → Type 0
Keeps old new = (c : Core) → Stands old c → Stands new c

-- what a claim gives: the waiting run of the least number, or that none waits
abbrev pub Claims : Claim → Book → Core → Type 0
Claims (Job j) new c =
    (r : Run) × (next_waiting c.runs ≡ Some r) × (j ≡ record { number = r.number; task = r.task }) × Stands new (next g726 c claims)
Claims Idle new c = (next_waiting c.runs ≡ None) × (ended c.feed ≡ false) × Stands new c
Claims Over new c = (next_waiting c.runs ≡ None) × (ended c.feed ≡ true) × Stands new c

-- a result is taken just where its run is out, and comes back where it isn't
abbrev pub Publishes : Held → Result Unit Held → Book → Core → Type 0
Publishes d (Ok u) new c = (holds_out g726 c.runs d.number d.task ≡ true) × Stands new (next g726 c (Publish d.number d.task))
Publishes d (Err d') new c = (holds_out g726 c.runs d.number d.task ≡ false) × (d' ≡ d) × Stands new c

abbrev pub GivesBack : Held → Result Unit Held → Book → Core → Type 0
GivesBack j (Ok u) new c = (holds_out g726 c.runs j.number j.task ≡ true) × Stands new (next g726 c (GiveBack j.number j.task))
GivesBack j (Err j') new c = (holds_out g726 c.runs j.number j.task ≡ false) × (j' ≡ j) × Stands new c

-- the packets of the next tick are handed out just where each of its listeners has its payload
abbrev pub Collects : Result Sent NotYet → Book → Core → Type 0
Collects (Ok p) new c =
    (accepts g726 c Collect ≡ true) × (p.tick ≡ collects c.feed) × (p.packets ≡ sent g726 (collects c.feed) c.feed)
    × Stands new (next g726 c (Enters Collect))
Collects (Err e) new c = (accepts g726 c Collect ≡ false) × Stands new c

-- the Book stands for a core with this feed
pub record WentThrough (b : Book) (h : Feed) : Type 0 where
  pub core : Core
  pub stands : Stands b core
  pub feed : core.feed ≡ h

-- how many runs aren't finished
abbrev pub unfinished : List Run → ℕ
unfinished runs = length (filter (λ r. not (is_finished r.stage)) runs)

-- so many results were taken: one for each number that was given out, less those whose runs aren't finished
pub record HasTaken (b : Book) (n : ℕ) : Type 0 where
  pub core : Core
  pub stands : Stands b core
  pub count : n + unfinished core.runs ≡ core.issued

-- the end stands in the feed
abbrev pub IsOver : Book → Type 0
IsOver b = ended b.log.feed.since ≡ true

-- a claim says that it is over just where nothing waits and this holds
abbrev pub TellsOver : Claim → Type 0 → Type 0
TellsOver (Job j) P = Unit {0}
TellsOver Idle P = P → ⊥
TellsOver Over P = P
