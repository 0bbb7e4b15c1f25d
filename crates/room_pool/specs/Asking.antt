-- What passes answer together.
use Rattle.std.specs.Prelude.{◌<◌, ◌+◌, ◌&&◌, ℕ, Bool}
use Rattle.room_pool.specs.declared.asking.Asked.{Asked}
use Rattle.room_pool.specs.declared.asking.Asked.TheVariants.{Job, Nothing}

-- the pass that had a job is one of so many
abbrev pub IsAt : Asked → ℕ → Type 0
IsAt (Job at job) count = at < count
IsAt (Nothing over) count = Unit {0}

-- what passes answer together with others that were asked before and had no job; whether those are over
abbrev pub with_over : Bool → Asked → Asked
with_over over (Job at job) = Job at job
with_over over (Nothing last) = Nothing (over && last)

-- the same where there was one before
abbrev pub behind_one : Bool → Asked → Asked
behind_one over (Job at job) = Job (at + 1) job
behind_one over (Nothing last) = Nothing (over && last)
