-- The calls of an end in memory that fails by plan: `fail` has the numbers, from 0, of those that are to fail,
-- `calls` is how many there were, and `faults` how many of them failed.
use Rattle.std.specs.Prelude.{◌≡◌, ℕ, ◌+◌, ◌-◌, ◌^◌, ◌<◌, min, List, All, Contains}
use Rattle.edge_io.specs.declared.plan.Plan.{Plan}

-- the next call is one of those that are to fail
abbrev pub IsPlanned : Plan → Type 0
IsPlanned plan = Contains plan.fail plan.calls

-- none of the coming calls is to fail
abbrev pub IsOver : Plan → Type 0
IsOver plan = All (λ n. n < plan.calls) plan.fail

-- one more call was made
abbrev pub OneCall : Plan → Plan → Type 0
OneCall old new = (new.fail ≡ old.fail) × (new.calls ≡ min (old.calls + 1) (2 ^ 64 - 1))

-- a plan of which no call was made yet
abbrev pub IsFresh : Plan → List ℕ → Type 0
IsFresh plan fail = (plan.fail ≡ fail) × (plan.calls ≡ 0) × (plan.faults ≡ 0)
