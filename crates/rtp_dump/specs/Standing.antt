-- A reader's fields, and what always holds of them.
use Rattle.std.specs.Prelude.{◌≡◌, ℕ, ◌<◌, List, [], Option, IfSome}
use Rattle.rtp_dump.specs.declared.item.TheConstants.{MAX_RECORDS}
use Rattle.rtp_dump.specs.declared.item.DumpItem.{DumpItem}
use Rattle.rtp_dump.specs.declared.stage.Stage.{Stage}
use Rattle.rtp_dump.specs.declared.stage.Stage.TheVariants.{Open, Ended}
use Rattle.rtp_dump.specs.declared.stage.Progress.{Progress}
use Rattle.rtp_dump.specs.Spelling.{Fits}
use Rattle.rtp_dump.specs.Reading.{Reading}

-- a reader by its fields
abbrev pub reading_of : {S : Type 0} → ℕ → S → Stage → Progress → Option DumpItem → Reading S
reading_of name source stage progress held = record {
  ghost_name = name;
  source = source;
  stage = stage;
  place = progress.place;
  records = progress.records;
  held = held;
}

-- a record that is held back is whole, one that may follow, and the next; and after the capture's end nothing is left
pub record Stands (rest : Option (List ℕ)) (stage : Stage) (progress : Progress) (held : Option DumpItem) : Type 0 where
  pub fits : IfSome held Fits
  pub follows : IfSome held (λ item. progress.records < MAX_RECORDS)
  pub among : IfSome held (λ item. stage ≡ Open)
  pub over : stage ≡ Ended → IfSome rest (λ octets. octets ≡ [])
