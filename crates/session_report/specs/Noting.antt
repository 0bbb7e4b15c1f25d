-- For which feed a Book's ticks and listeners were noted.
use Rattle.std.specs.Prelude.{◌≡◌, ℕ}
use Rattle.g726_bits.specs.declared.Rate.{Rate}
use Rattle.conference_spec.specs.Feed.{Feed}
use Rattle.desk_run.specs.BookSide.{HandedAll}
use Rattle.session_account.specs.Listening.{Lists}
use Rattle.session_account.specs.Speaking.{spoken, muted}
use Rattle.session_account.specs.Encoding.{count_at, runs_at}
use Rattle.session_report.specs.declared.audience.Noting.{Noting}

-- the Book handed out all ticks of this feed, and its guests were noted, and who was heard, and its runs by their rates
abbrev pub Notes : Noting → Feed → ℕ → Type 0
Notes c f n =
    HandedAll c.book f n × Lists c.visits f × (c.voices ≡ spoken (muted c.voices) f) × ((rate : Rate) → count_at rate c.runs ≡ runs_at rate f)
