-- What contracts see of a pass.
use Rattle.atomic_table.specs.Seated.{TableId}
use Rattle.book_lock.specs.declared.view.View.{View}

-- the lock that the pass is of, and what the pass knows
pub record Known (E S : Type 0) : Type 0 where
  pub home : TableId
  pub view : View E S
