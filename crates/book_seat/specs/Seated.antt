-- What contracts see of the passes.
use Rattle.std.specs.Prelude.{ℕ, []}
use Rattle.atomic_table.specs.Seated.{TableId}
use Rattle.book_lock.specs.Known.{Known}
use Rattle.conference_spec.specs.declared.Entry.{Entry}
use Rattle.tick_core.specs.Locking.{Parts}

-- a worker's pass, and how many results its lock's Book took from it
pub record Working : Type 0 where
  pub pass : Known Entry Parts
  pub taken : ℕ

-- the lock of the desk's pass, and how many workers' passes are out
pub record Post : Type 0 where
  pub home : TableId
  pub out : ℕ

abbrev pub post_of : Known Entry Parts → Post
post_of d = record { home = d.home; out = d.view.out }

abbrev pub no_lock : TableId
no_lock = record { words = 0; slots = 0; views_name = 0; atom = 0; block = 0; offset = 0; slot_names = [] }
