-- What is in a list, and what the machine keeps in the form that is carried from event to event.
use Rattle.std.specs.Prelude.{◌≡◌, ℕ, ◌+◌, ◌≤◌, ◌<◌, ◌⊎◌, true, List, [], ◌∷◌, length}
use Rattle.conference_spec.specs.declared.Task.{Task}
use Rattle.conference_spec.specs.Coding.{Coder}
use Rattle.conference_spec.specs.Feed.{is_legal}
use Rattle.conference_spec.specs.Machine.{Run, Core, run_tasks, reached}
use Rattle.conference_spec.specs.Kept.{collected_runs}

-- the thing is in the list
abbrev pub In : {X : Type 0} → X → List X → Type 0
In x [] = ⊥
In x (y ∷ ys) = (y ≡ x) ⊎ In x ys

-- the list has nothing twice
abbrev pub Once : {X : Type 0} → List X → Type 0
Once [] = Unit {0}
Once (x ∷ xs) = (In x xs → ⊥) × Once xs

-- numbers rise from above low, and none is above high
abbrev pub Rise : ℕ → ℕ → List Run → Type 0
Rise low high [] = low ≤ high
Rise low high (r ∷ rs) = (low < r.number) × Rise r.number high rs

-- what is carried, but for 'each reached task has a number'
pub record Carried (coder : Coder) (c : Core) : Type 0 where
  pub legal : is_legal coder c.feed ≡ true
  pub once : Once (run_tasks c.runs)
  pub all_reached : (x : Task) → In x (run_tasks c.runs) → In x (reached coder c.runs c.feed)
  pub count : c.issued ≡ collected_runs coder c.feed + length c.runs
  pub numbers : Rise 0 c.issued c.runs

-- the same with it
pub record Kept (coder : Coder) (c : Core) : Type 0 where
  pub carried : Carried coder c
  pub all_numbered : (x : Task) → In x (reached coder c.runs c.feed) → In x (run_tasks c.runs)
