-- What a turn is, of a Book.
use Rattle.std.specs.Prelude.{◌≡◌, ◌+◌, Some}
use Rattle.conference_spec.specs.declared.Entry.{Entry}
use Rattle.conference_spec.specs.Machine.{Core}
use Rattle.book_lock.specs.declared.view.View.{View}
use Rattle.book_lock.specs.Views.{standing, turn_from}
use Rattle.book_lock.specs.Turns.{MayFind}
use Rattle.tick_core.specs.declared.book.Book.{Book}
use Rattle.tick_core.specs.Standing.{Stands}
use Rattle.tick_core.specs.Locking.{Parts, parts_of}

-- for each core for which the Book stood, it now stands for one to which the step leads
pub record Steps (step : Core → Core → Type 0) (old new : Book) : Type 0 where
  pub each : (c : Core) → Stands old c → (d : Core) × Stands new d × step c d

-- One turn, in which the core took this step, takes a pass from v to w:
pub record TookTurn (v w : View Entry Parts) (step : Core → Core → Type 0) : Type 0 where
  -- it found and left these cores, as its last turn says,
  pub found : Core
  pub left : Core
  pub last : w.last ≡ Some (turn_from (standing found.feed (parts_of found)) (standing left.feed (parts_of left)))
  -- and the step leads from the one to the other;
  pub did : step found left
  -- each is the core of some Book;
  pub was : (b : Book) × Stands b found
  pub is : (b : Book) × Stands b left
  -- what was found is what the pass may find;
  pub may : MayFind v found.feed
  -- the pass has now seen what was left, has taken one turn more, and is whose it was.
  pub seen : w.seen ≡ left.feed
  pub turns : w.turns ≡ v.turns + 1
  pub desk : w.desk ≡ v.desk
  pub worker : w.worker ≡ v.worker
  pub out : w.out ≡ v.out
