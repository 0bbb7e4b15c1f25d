-- A value in a box.
use Rattle.std.specs.Prelude.{List, Box}
use Rattle.std.specs.Global.{Global}

module _ {T E S : Type 0} (stands : T → List E → S → Type 0) where
  -- a box stands for what its value stands for
  abbrev pub Boxed : Box T Global → List E → S → Type 0
  Boxed b feed state = stands b.value feed state
