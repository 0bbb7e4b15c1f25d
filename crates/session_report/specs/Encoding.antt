-- Runs that are made and counted by their rates.
use Rattle.std.specs.Prelude.{◌≡◌, ℕ, ◌+◌, ◌-◌, ◌&&◌, if◌then◌else◌, length, filter}
use Rattle.g726_bits.specs.declared.Rate.{Rate}
use Rattle.conference_spec.specs.Machine.{Core, Run, waits}
use Rattle.tick_core.specs.declared.book.Book.{Book}
use Rattle.desk_run.specs.BookSide.{HasRun, waiting}
use Rattle.session_account.specs.declared.runs.Runs.{Runs}
use Rattle.session_account.specs.Encoding.{is_rate, count_at}

-- how many runs of a rate wait
abbrev pub waiting_at : Rate → Core → ℕ
waiting_at rate c = length (filter (λ (r : Run). waits r.stage && is_rate rate r.task.triple.rate) c.runs)

-- of the waiting runs the first was made, which was of this rate
pub record HasMade (rate : Rate) (c : Core) (b : Book) : Type 0 where
  pub made : HasRun (waiting c - 1) c b
  pub counts : (q : Rate) → waiting_at q made.core + (if is_rate q rate then 1 else 0) ≡ waiting_at q c

-- of the waiting runs all but n were made, and each was counted at its rate
pub record HasCounted (n : ℕ) (c : Core) (b : Book) (old new : Runs) : Type 0 where
  pub made : HasRun n c b
  pub counts : (q : Rate) → count_at q new + waiting_at q made.core ≡ count_at q old + waiting_at q c
