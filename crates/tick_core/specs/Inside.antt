-- What an open tick keeps.
use Rattle.std.specs.Prelude.{◌≤◌, length}
use Rattle.book_lists.specs.Levels.{Level}
use Rattle.tick_core.specs.declared.open.Open.TheInside.{Inside}
use Rattle.tick_core.specs.Hearing.{whole, IsMade}

abbrev pub level_of : Inside → Level
level_of o = record { number = o.number; talkers = o.talkers; seats = o.seats.items; rows = o.table.rows }

-- there is room for a run of each listener, and what those hear who aren't heard is made of the tick's talkers
abbrev pub IsOpen : Inside → Type 0
IsOpen o = (length o.seats.items ≤ o.table.room) × IsMade (whole o.talkers) o.mixes.others
