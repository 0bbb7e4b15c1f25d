-- Histories: lists of entries, the newest first.
use Rattle.std.specs.Prelude.{◌≡◌, List, ◌++◌}

-- `now` is what `then` was, with newer entries in front
pub record GoesOn {E : Type 0} (then now : List E) : Type 0 where
  pub since : List E
  pub grown : now ≡ since ++ then
