-- The Book as the conference of a session.
use Rattle.std.specs.Prelude.{◌≡◌, ◌≤◌, ℕ, true, false, length, filter, All, Contains}
use Rattle.conference_spec.specs.declared.Task.{Task}
use Rattle.conference_spec.specs.Codec.{g726}
use Rattle.conference_spec.specs.Feed.{Feed, guests, closes, collects}
use Rattle.conference_spec.specs.Tasks.{tasks}
use Rattle.conference_spec.specs.Machine.{Core, run_tasks, waits, is_out, is_finished}
use Rattle.tick_core.specs.declared.book.Book.{Book}
use Rattle.tick_core.specs.Standing.{Stands}

-- the Book stands for this feed, and each run that it keeps is finished
pub record StandsFor (b : Book) (f : Feed) : Type 0 where
  pub core : Core
  pub stands : Stands b core
  pub feed : core.feed ≡ f
  pub finished : All (λ r. is_finished r.stage ≡ true) core.runs
  pub lawful : All (λ g. g.listener.spec.pt ≤ 127) (guests g726 f)

-- it handed out each tick that was closed
abbrev pub IsEven : Book → Type 0
IsEven b = (f : Feed) × StandsFor b f × (collects f ≡ closes f)

-- it stands for this feed, and handed out each tick that was closed
abbrev pub HandedAll : Book → Feed → ℕ → Type 0
HandedAll b f n = StandsFor b f × (n ≡ closes f) × (collects f ≡ closes f)

-- each task of the ticks that aren't collected has its run, and no run is out
pub record IsWhole (c : Core) : Type 0 where
  pub each_run : (x : Task) → Contains (tasks g726 c.feed) x → collects c.feed ≤ x.tick → Contains (run_tasks c.runs) x
  pub none_out : All (λ r. is_out r.stage ≡ false) c.runs

-- how many runs wait
abbrev pub waiting : Core → ℕ
waiting c = length (filter (λ r. waits r.stage) c.runs)

-- of the waiting runs all but n were made, and nothing else has changed
pub record HasRun (n : ℕ) (c : Core) (b : Book) : Type 0 where
  pub core : Core
  pub stands : Stands b core
  pub feed : core.feed ≡ c.feed
  pub whole : IsWhole core
  pub left : waiting core ≡ n
