-- What a pass knows at each place of its life.
use Rattle.std.specs.Prelude.{◌≡◌, ℕ, ◌+◌, ◌-◌, true, false, List, [], Some, None}
use Rattle.book_lock.specs.declared.view.Standing.{Standing}
use Rattle.book_lock.specs.declared.view.LastTurn.{LastTurn}
use Rattle.book_lock.specs.declared.view.View.{View}

module _ {E S : Type 0} where
  abbrev pub standing : List E → S → Standing E S
  standing feed state = record { feed = feed; state = state }

  abbrev pub turn_from : Standing E S → Standing E S → LastTurn E S
  turn_from found left = record { found = found; left = left }

  -- neither the desk's nor a worker's
  abbrev pub spent : View E S
  spent = record { desk = false; worker = false; ticket = None; holds = false; seen = []; turns = 0; found = None; last = None; out = 0 }

  -- the first pass of a new lock, which has the turn without a ticket
  abbrev pub opening : View E S
  opening = record spent { holds = true }

  -- the same, while it puts the value into the slot
  abbrev pub filling : View E S
  filling = record opening { desk = true }

  -- the desk's pass of a new lock
  abbrev pub first_desk : List E → View E S
  first_desk seen = record spent { desk = true; seen = seen }

  -- with a ticket
  abbrev pub waits : View E S → ℕ → View E S
  waits v t = record v { ticket = Some t }

  -- in its turn, which found this
  abbrev pub enters : View E S → Standing E S → View E S
  enters v found = record v { holds = true; seen = found.feed; found = Some found }

  -- in its turn, with a longer list
  abbrev pub grows : View E S → List E → View E S
  grows v seen = record v { seen = seen }

  -- after its turn
  abbrev pub leaves : View E S → LastTurn E S → View E S
  leaves v last = record v { ticket = None; holds = false; turns = v.turns + 1; found = None; last = Some last }

  -- the desk's, with one worker's pass more out
  abbrev pub lending : View E S → View E S
  lending v = record v { out = v.out + 1 }

  -- a worker's pass that has seen as much
  abbrev pub hired : View E S → View E S
  hired v = record spent { worker = true; seen = v.seen }

  -- the desk's, with one worker's pass less out
  abbrev pub returned : View E S → View E S
  returned v = record v { out = v.out - 1 }

  -- between two turns
  pub record Idle (v : View E S) : Type 0 where
    pub ticket : v.ticket ≡ None
    pub holds : v.holds ≡ false
    pub live : v.desk ≡ false → v.worker ≡ true
