-- What each step tells the pass that takes it. A step sees the pass before, the number that it found, and the pass after.
use Rattle.std.specs.Prelude.{◌^◌, ◌<◌, false, length, ◌+◌, ◌≡◌, ◌≢◌, ℕ, List, [], ◌∷◌, Option, Some, None}
use Rattle.atomic_table.specs.Table.{Step, Me}
use Rattle.book_lock.specs.declared.view.Standing.{Standing}
use Rattle.book_lock.specs.declared.view.View.{View}
use Rattle.book_lock.specs.Histories.{GoesOn}
use Rattle.book_lock.specs.Views.{standing, turn_from, filling, first_desk, waits, enters, grows, leaves}
use Rattle.book_lock.specs.Turns.{MayFind}

module _ {T E S : Type 0} (stands : T → List E → S → Type 0) where
  -- the one slot is out, with a value that stands for this
  abbrev pub Carries : List (ℕ × Option T) → List E → S → Type 0
  Carries ((k, Some x) ∷ []) feed state = stands x feed state
  Carries ((k, None) ∷ []) feed state = ⊥
  Carries (a ∷ b ∷ c) feed state = ⊥
  Carries [] feed state = ⊥

  -- the slot of a new lock is out, and empty
  abbrev pub Opened : Step (Option T) → Me (Option T) (View E S) → ℕ → Me (Option T) (View E S) → Type 0
  Opened step before found after = after ≡ (filling, (0, None) ∷ [])

  -- the first pass is the desk's, and has seen what the value stands for
  abbrev pub Filled : Step (Option T) → Me (Option T) (View E S) → ℕ → Me (Option T) (View E S) → Type 0
  Filled step before found after = (seen : List E) × (state : S) × Carries before.1 seen state × (after ≡ (first_desk seen, []))

  -- the ticket that was next is drawn, if it was still the next one
  abbrev pub Drawn : Step (Option T) → Me (Option T) (View E S) → ℕ → Me (Option T) (View E S) → Type 0
  Drawn step before found after = (found ≡ step.first → after ≡ (waits before.0 found, before.1)) × (found ≢ step.first → after ≡ before)

  -- a turn begins: the pass has the value, which stands for what the pass may find
  abbrev pub Entered : Me (Option T) (View E S) → Me (Option T) (View E S) → Type 0
  Entered before after =
      (feed : List E) × (state : S) × (x : T) × stands x feed state × MayFind before.0 feed
      × (after ≡ (enters before.0 (standing feed state), (0, Some x) ∷ []))

  -- where the pass's ticket is served, its turn begins
  abbrev pub Looked : Step (Option T) → Me (Option T) (View E S) → ℕ → Me (Option T) (View E S) → Type 0
  Looked step before found after = (before.0.ticket ≡ Some found → Entered before after) × (before.0.ticket ≢ Some found → after ≡ before)

  -- the value that is out stands for what the pass has seen and `count` entries more, which only the desk's pass may have appended
  abbrev pub Appended : Me (Option T) (View E S) → ℕ → Type 0
  Appended me count =
      (left : List E) × (state : S) × Carries me.1 left state × GoesOn me.0.seen left × (length left ≡ length me.0.seen + count)
      × (length left < 2 ^ 64) × (me.0.desk ≡ false → left ≡ me.0.seen)

  -- the pass has seen what the value that is out stands for
  abbrev pub Settled : Me (Option T) (View E S) → Me (Option T) (View E S) → Type 0
  Settled before after =
      (left : List E) × (state : S) × Carries before.1 left state × GoesOn before.0.seen left
      × (before.0.desk ≡ false → left ≡ before.0.seen) × (after ≡ (grows before.0 left, before.1))

  -- the desk's pass has seen what the value stands for by now
  abbrev pub Grown : Step (Option T) → Me (Option T) (View E S) → ℕ → Me (Option T) (View E S) → Type 0
  Grown step before found after = (seen : List E) × (state : S) × Carries before.1 seen state × GoesOn before.0.seen seen × (after ≡ (grows before.0 seen, before.1))

  -- the turn is over, and what it found and left is the pass's last turn
  abbrev pub Left : Me (Option T) (View E S) → Me (Option T) (View E S) → Type 0
  Left before after =
      (state : S) × Carries before.1 before.0.seen state
      × ((was : Standing E S) → before.0.found ≡ Some was → after ≡ (leaves before.0 (turn_from was (standing before.0.seen state)), []))

  abbrev pub Passed : Step (Option T) → Me (Option T) (View E S) → ℕ → Me (Option T) (View E S) → Type 0
  Passed step before found after = Left before after
