-- The passes of the rooms before they are run.
use Rattle.std.specs.Prelude.{◌≡◌, ℕ, true, List, [], ◌∷◌}
use Rattle.atomic_table.specs.Seated.{TableId}
use Rattle.book_lock.specs.Known.{Known}
use Rattle.conference_spec.specs.declared.Entry.{Entry}
use Rattle.tick_core.specs.Locking.{Parts}
use Rattle.rooms_run.specs.declared.opening.Keyed.{Keyed}

-- the desk's pass of this lock, round a Book to which nothing has happened
pub record IsFresh (lock : TableId) (pass : Known Entry Parts) : Type 0 where
  pub home : pass.home ≡ lock
  pub desk : pass.view.desk ≡ true
  pub seen : pass.view.seen ≡ []
  pub out : pass.view.out ≡ 0

-- each is the pass of the lock at its place
abbrev pub AreFresh : List TableId → List (Known Entry Parts) → Type 0
AreFresh locks [] = Unit {0}
AreFresh [] (p ∷ passes) = ⊥
AreFresh (l ∷ locks) (p ∷ passes) = IsFresh l p × AreFresh locks passes

-- the desk's side of a Book to which nothing has happened, under its lock, with so many workers' passes out
pub record IsKeyed {W : Type 0} (n : ℕ) (k : Keyed W) : Type 0 where
  pub home : k.desk.home ≡ k.lock.now
  pub seen : k.desk.view.seen ≡ []
  pub out : k.desk.view.out ≡ n
