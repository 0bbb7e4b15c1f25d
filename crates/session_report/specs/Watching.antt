-- For which events a watched desk has counted.
use Rattle.std.specs.Prelude.{◌≡◌, false}
use Rattle.session_spec.specs.Talkers.{Events}
use Rattle.session_account.specs.Arriving.{arrived}
use Rattle.session_report.specs.declared.watching.Watching.{Watching}

-- unless a count had no room, what arrived was counted
abbrev pub Counts : Watching → Events → Type 0
Counts w h = w.lost ≡ false → w.streams ≡ arrived h
