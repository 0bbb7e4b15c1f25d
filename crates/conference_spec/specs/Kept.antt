-- What the machine keeps, whatever happens to it.
use Rattle.std.specs.Prelude.{ℕ, ℤ, true, false, ◌||◌, ◌≡◌, ◌+◌, ◌≤◌, ◌↔◌, List, ◌∷◌, ◌++◌, length, filter, nat_lt, Contains, AllPairs}
use Rattle.std.specs.List.{list_all}
use Rattle.conference_spec.specs.declared.Task.{Task}
use Rattle.conference_spec.specs.Coding.{Coder}
use Rattle.conference_spec.specs.Feed.{Feed, Listener, is_legal, closes, collects}
use Rattle.conference_spec.specs.Tasks.{tasks, due, own_task, own_tasks}
use Rattle.conference_spec.specs.Machine.{Core, Run, run_tasks, reached, is_over, is_finished, is_done}

-- the runs of the ticks that were collected: one for each triple
abbrev pub collected_runs : Coder → Feed → ℕ
collected_runs coder h = length (filter (λ x. nat_lt x.tick (collects h)) (tasks coder h))

-- those of all finished ticks, collected or not
abbrev pub finished_runs : Coder → List Run → Feed → ℕ
finished_runs coder runs h = length (filter (λ x. nat_lt x.tick (collects h) || is_over coder runs h x.tick) (tasks coder h))

-- the runs of a tick are its triples, and each is finished
pub record IsRunOnce (coder : Coder) (c : Core) (k : ℕ) : Type 0 where
  pub each_run : (x : Task) → Contains (tasks coder c.feed) x → x.tick ≡ k → Contains (run_tasks c.runs) x
  pub no_other : (r : Run) → Contains c.runs r → r.task.tick ≡ k → Contains (tasks coder c.feed) r.task × (is_finished r.stage ≡ true)

-- as many numbers as triples of collected ticks, and runs that are kept; at least one for each of finished ticks, at most what is due
pub record IsCounted (coder : Coder) (c : Core) : Type 0 where
  pub count : c.issued ≡ collected_runs coder c.feed + length c.runs
  pub at_least : finished_runs coder c.runs c.feed ≤ c.issued
  pub at_most : c.issued ≤ due coder c.feed
  pub at_end : collects c.feed ≡ closes c.feed → c.issued ≡ due coder c.feed

pub record Holds (coder : Coder) (c : Core) : Type 0 where
  -- each entry could follow those before it
  pub legal : is_legal coder c.feed ≡ true
  -- no task has two numbers
  pub once : AllPairs (λ a b. a.task ≡ b.task → ⊥) c.runs
  -- what has a number is just what is reached
  pub reached_run : (x : Task) → Contains (reached coder c.runs c.feed) x ↔ Contains (run_tasks c.runs) x
  -- the runs of a finished tick that isn't collected are just its triples
  pub over_run : (k : ℕ) → collects c.feed ≤ k → is_over coder c.runs c.feed k ≡ true → IsRunOnce coder c k
  pub counted : IsCounted coder c

-- the listener has passed its ticks up to one, and the run of that one is there and isn't finished
pub record WaitsAt (coder : Coder) (c : Core) (l : Listener) (r : Run) : Type 0 where
  pub later : List (List ℤ)
  pub frame : List ℤ
  pub earlier : List (List ℤ)
  pub heard : l.heard ≡ later ++ frame ∷ earlier
  pub passed : list_all (is_done coder (collects c.feed) c.runs) (own_tasks coder l.from l.spec.rate l.first earlier) ≡ true
  pub own : r.task ≡ own_task coder l.from l.spec.rate l.first earlier frame
  pub there : Contains c.runs r
  pub unfinished : is_finished r.stage ≡ false

-- the listener waits at this run, and at no other
pub record WaitsForOne (coder : Coder) (c : Core) (l : Listener) : Type 0 where
  pub run : Run
  pub waits : WaitsAt coder c l run
  pub alone : (r : Run) → WaitsAt coder c l r → r ≡ run
