-- What ticks that are closed, run and collected one after another do to a Book.
use Rattle.std.specs.Prelude.{◌≡◌, ℕ, ◌+◌, ◌≤◌, false, List, [], ◌∷◌, length}
use Rattle.conference_spec.specs.declared.Entry.TheVariants.{Join, Leave}
use Rattle.conference_spec.specs.Codec.{g726}
use Rattle.conference_spec.specs.Feed.{Feed, closes, collects, ended, listeners}
use Rattle.conference_spec.specs.Machine.{Core}
use Rattle.tick_core.specs.declared.book.Book.{Book}
use Rattle.tick_core.specs.Standing.{Stands}

-- nobody has left, and each packet carries one tick
abbrev pub IsCrowd : Feed → Type 0
IsCrowd [] = Unit {0}
IsCrowd (Join spec ∷ h) = (spec.ticks ≡ 1) × IsCrowd h
IsCrowd (Leave member ∷ h) = ⊥
IsCrowd (e ∷ h) = IsCrowd h

-- the end hasn't come, each tick that was closed is collected, and all are a crowd
pub record IsSettled (c : Core) : Type 0 where
  pub open' : ended c.feed ≡ false
  pub collected : collects c.feed ≡ closes c.feed
  pub all : IsCrowd c.feed

-- the Book stands for such a core
abbrev pub StandsSettled : Book → Type 0
StandsSettled b = (c : Core) × Stands b c × IsSettled c

-- how many listeners there are
abbrev pub crowd : Core → ℕ
crowd c = length (listeners g726 c.feed)

-- settled, with n listeners and k ticks more
pub record Grows (n k : ℕ) (c c' : Core) : Type 0 where
  pub settled : IsSettled c'
  pub crowd' : crowd c' ≡ crowd c + n
  pub ticks : closes c'.feed ≡ closes c.feed + k
  pub issued : c.issued ≤ c'.issued

-- where the Book stood for a settled core, it stands for one with n listeners and k ticks more
abbrev pub GoesOn : ℕ → ℕ → Book → Book → Type 0
GoesOn n k old new = (c : Core) → Stands old c → IsSettled c → (c' : Core) × Stands new c' × Grows n k c c'

-- it stands for a core of the same feed, where no number was taken back
abbrev pub KeepsFeed : Book → Book → Type 0
KeepsFeed old new = (c : Core) → Stands old c → (c' : Core) × Stands new c' × (c'.feed ≡ c.feed) × (c.issued ≤ c'.issued)
