-- The core as a machine: numbered runs that wait, are out or are finished, over a feed.
use Rattle.std.specs.Prelude.{if◌then◌else◌, ℕ, Bool, true, false, not, ◌&&◌, ◌||◌, List, [], ◌∷◌, ◌++◌, length, map, filter, find, ◌+◌, ◌==◌, nat_lt, nat_le, Option, Some, None}
use Rattle.std.specs.List.{list_any, list_all}
use Rattle.conference_spec.specs.declared.Entry.{Entry}
use Rattle.conference_spec.specs.declared.Entry.TheVariants.{Close, Collect}
use Rattle.conference_spec.specs.declared.Task.{Task}
use Rattle.conference_spec.specs.declared.Stage.{Stage}
use Rattle.conference_spec.specs.declared.Stage.TheVariants.{Waiting, Out, Finished}
use Rattle.conference_spec.specs.Coding.{Coder}
use Rattle.conference_spec.specs.Feed.{Feed, Listener, closes, collects, may_follow}
use Rattle.conference_spec.specs.Tasks.{tasks_of, is_same_task, wanted, tasks}

-- a task with a number
pub record Run : Type 0 where
  pub number : ℕ
  pub task : Task
  pub stage : Stage

-- the feed, how many numbers were issued, and the runs of the ticks that aren't collected, by rising number
pub record Core : Type 0 where
  pub feed : Feed
  pub issued : ℕ
  pub runs : List Run

abbrev pub begun : Core
begun = record { feed = []; issued = 0; runs = [] }

abbrev pub waits : Stage → Bool
waits Waiting = true
waits s = false

abbrev pub is_out : Stage → Bool
is_out Out = true
is_out s = false

abbrev pub is_finished : Stage → Bool
is_finished Finished = true
is_finished s = false

abbrev pub has : Coder → List Task → Task → Bool
has coder xs x = list_any (λ y. is_same_task coder y x) xs

abbrev pub run_tasks : List Run → List Task
run_tasks runs = map (λ r. r.task) runs

abbrev pub finished_tasks : List Run → List Task
finished_tasks runs = run_tasks (filter (λ r. is_finished r.stage) runs)

-- its tick is collected, or its run is finished
abbrev pub is_done : Coder → ℕ → List Run → Task → Bool
is_done coder gone runs x = nat_lt x.tick gone || has coder (finished_tasks runs) x

-- the listener has passed each of its ticks so far
abbrev pub has_passed : Coder → ℕ → List Run → Listener → Bool
has_passed coder gone runs l = list_all (is_done coder gone runs) (tasks_of coder l)

-- what is to be run for those who have passed all their ticks before, at ticks that aren't collected
abbrev pub reached : Coder → List Run → Feed → List Task
reached coder runs h = filter (λ x. nat_le (collects h) x.tick) (wanted coder (has_passed coder (collects h) runs) h)

-- what of that has no number
abbrev pub unnumbered : Coder → List Run → Feed → List Task
unnumbered coder runs h = filter (λ x. not (has coder (run_tasks runs) x)) (reached coder runs h)

-- the next numbers after n, for these tasks
abbrev pub numbered : ℕ → List Task → List Run
numbered n [] = []
numbered n (x ∷ xs) = record { number = n + 1; task = x; stage = Waiting } ∷ numbered (n + 1) xs

-- each reached task that has no number gets one
abbrev pub with_reached : Coder → Core → Core
with_reached coder c =
    let new = unnumbered coder c.runs c.feed in
    record { feed = c.feed; issued = c.issued + length new; runs = c.runs ++ numbered c.issued new }

-- the run with this number is at this stage
abbrev pub moved : ℕ → Stage → Run → Run
moved n stage r = if r.number == n then record { number = r.number; task = r.task; stage = stage } else r

abbrev pub with_stage : Core → ℕ → Stage → Core
with_stage c n stage = record { feed = c.feed; issued = c.issued; runs = map (moved n stage) c.runs }

abbrev pub next_waiting : List Run → Option Run
next_waiting runs = find (λ r. waits r.stage) runs

-- the run with this number is out, and is of this task
abbrev pub holds_out : Coder → List Run → ℕ → Task → Bool
holds_out coder runs n x = list_any (λ r. (r.number == n) && (is_same_task coder r.task x && is_out r.stage)) runs

-- each task of tick k is finished
abbrev pub is_over : Coder → List Run → Feed → ℕ → Bool
is_over coder runs h k = list_all (λ x. not (x.tick == k) || has coder (finished_tasks runs) x) (tasks coder h)

-- what can happen to the core
pub data Event : Type 0 where
  Enters : Entry → Event
  Claim : Event
  Publish : ℕ → Task → Event
  GiveBack : ℕ → Task → Event

-- the feed takes this entry; a collect also wants its tick over
abbrev pub accepts : Coder → Core → Entry → Bool
accepts coder c Collect = nat_lt (collects c.feed) (closes c.feed) && is_over coder c.runs c.feed (collects c.feed)
accepts coder c e = may_follow coder c.feed e

abbrev pub appended : Core → Entry → Core
appended c e = record { feed = e ∷ c.feed; issued = c.issued; runs = c.runs }

-- a collect forgets the runs of its tick
abbrev pub entered : Coder → Core → Entry → Core
entered coder c (Close tick) = with_reached coder (appended c (Close tick))
entered coder c Collect =
    record { feed = Collect ∷ c.feed; issued = c.issued; runs = filter (λ r. not (r.task.tick == collects c.feed)) c.runs }
entered coder c e = appended c e

abbrev pub claimed : Core → Option Run → Core
claimed c None = c
claimed c (Some r) = with_stage c r.number Out

-- the core after an event; what is refused changes nothing
abbrev pub next : Coder → Core → Event → Core
next coder c (Enters e) = if accepts coder c e then entered coder c e else c
next coder c Claim = claimed c (next_waiting c.runs)
next coder c (Publish n x) = if holds_out coder c.runs n x then with_reached coder (with_stage c n Finished) else c
next coder c (GiveBack n x) = if holds_out coder c.runs n x then with_stage c n Waiting else c

-- the core after these events, the newest first
abbrev pub core_after : Coder → List Event → Core
core_after coder [] = begun
core_after coder (e ∷ es) = next coder (core_after coder es) e
