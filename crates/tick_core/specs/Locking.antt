-- What a Book is to a lock round it.
use Rattle.std.specs.Prelude.{ℕ, List}
use Rattle.conference_spec.specs.Feed.{Feed}
use Rattle.conference_spec.specs.Machine.{Core, Run}
use Rattle.tick_core.specs.declared.book.Book.{Book}
use Rattle.tick_core.specs.Standing.{Stands}

-- a core without its feed
pub record Parts : Type 0 where
  pub issued : ℕ
  pub runs : List Run

abbrev pub core_of : Feed → Parts → Core
core_of feed parts = record { feed = feed; issued = parts.issued; runs = parts.runs }

abbrev pub parts_of : Core → Parts
parts_of c = record { issued = c.issued; runs = c.runs }

-- the Book stands for the core of this feed and these parts
abbrev pub StandsWith : Book → Feed → Parts → Type 0
StandsWith b feed parts = Stands b (core_of feed parts)
