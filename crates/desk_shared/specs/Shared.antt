-- A session over a Book behind a lock.
use Rattle.std.specs.Prelude.{◌≡◌, ◌≤◌, ℕ, List, ◌∷◌, All, length}
use Rattle.book_lock.specs.Known.{Known}
use Rattle.conference_spec.specs.declared.Entry.{Entry}
use Rattle.conference_spec.specs.declared.Entry.TheVariants.{End}
use Rattle.conference_spec.specs.Codec.{g726}
use Rattle.conference_spec.specs.Feed.{Feed, closes, collects, guests}
use Rattle.tick_core.specs.declared.book.Book.{Book}
use Rattle.tick_core.specs.Locking.{Parts}
use Rattle.desk_run.specs.BookSide.{StandsFor}
use Rattle.book_seat.specs.Seated.{Working}
use Rattle.desk_shared.specs.Handed.{without_collects}

-- what was seen is the session's feed with the end behind it, but for where its collects stand, and n ticks were handed out
pub record IsOver (seen h : Feed) (n : ℕ) : Type 0 where
  pub own : Feed
  pub ended' : seen ≡ End ∷ own
  pub same : without_collects own ≡ without_collects h
  pub count : collects own ≡ n
  pub lawful : All (λ g. g.listener.spec.pt ≤ 127) (guests g726 h)

-- The Book carries the session: it went through a feed that is the session's but for where its collects stand, with the end behind
-- it, and handed out each tick that was closed.
pub record WentAlong (b : Book) (h : Feed) : Type 0 where
  pub own : Feed
  pub stands : StandsFor b (End ∷ own)
  pub same : without_collects own ≡ without_collects h
  pub even : collects own ≡ closes own

-- so many passes of the lock that the desk's pass is of, which the desk has out
pub record AreHired (count : ℕ) (desk : Known Entry Parts) (workers : List Working) : Type 0 where
  pub homes : All (λ w. w.pass.home ≡ desk.home) workers
  pub count_is : length workers ≡ count
