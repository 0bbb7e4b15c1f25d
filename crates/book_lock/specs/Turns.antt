-- What a turn is.
use Rattle.std.specs.Prelude.{◌≡◌, ◌+◌, true, false, List, Some}
use Rattle.book_lock.specs.declared.view.Standing.{Standing}
use Rattle.book_lock.specs.declared.view.View.{View}
use Rattle.book_lock.specs.Histories.{GoesOn}
use Rattle.book_lock.specs.Views.{turn_from}

module _ {E S : Type 0} where
  -- a turn of this pass may find the feed: it goes on from what the pass has seen, and at the desk's it is just that
  abbrev pub MayFind : View E S → List E → Type 0
  MayFind v feed = GoesOn v.seen feed × (v.desk ≡ true → feed ≡ v.seen)

module _ {T E S : Type 0} (stands : T → List E → S → Type 0) where
  -- what is done to a value appends entries to each feed that the turn may find; on a pass that isn't the desk's it appends none
  abbrev pub OnlyAppends : View E S → (T → T → Type 0) → Type 0
  OnlyAppends v done = (x y : T) (feed : List E) (state : S) → stands x feed state → MayFind v feed → done x y
      → (left : List E) × (after : S) × stands y left after × GoesOn feed left × (v.desk ≡ false → left ≡ feed)

  -- One turn, in which this was done to the value, takes a pass from v to w:
  pub record Turns (done : T → T → Type 0) (v w : View E S) : Type 0 where
    -- it found and left this,
    pub found : Standing E S
    pub left : Standing E S
    pub last : w.last ≡ Some (turn_from found left)
    -- it was done to a value that stands for what was found, and left one that stands for what was left,
    pub did : (x : T) × (y : T) × stands x found.feed found.state × done x y × stands y left.feed left.state
    -- what was found is what the pass may find, and what was left goes on from it, and is the same where the pass isn't the desk's;
    pub may : MayFind v found.feed
    pub appended : GoesOn found.feed left.feed
    pub read : v.desk ≡ false → left.feed ≡ found.feed
    -- the pass has now seen what was left, has taken one turn more, and is whose it was.
    pub seen : w.seen ≡ left.feed
    pub turns : w.turns ≡ v.turns + 1
    pub desk : w.desk ≡ v.desk
    pub worker : w.worker ≡ v.worker
    pub out : w.out ≡ v.out
