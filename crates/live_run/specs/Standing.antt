-- For what a conference stands whose listeners are tallied.
use Rattle.std.specs.Prelude.{◌≡◌, ℕ}
use Rattle.conference_spec.specs.Codec.{g726}
use Rattle.conference_spec.specs.Feed.{Feed, closes}
use Rattle.session_spec.specs.Answer.{sent_to}
use Rattle.live_tally.specs.declared.tallies.Tallies.{Tallies}
use Rattle.live_tally.specs.Kept.{Keeps}

-- The conference stands for this feed, so many of whose ticks were handed out; all that its closed ticks send was counted.
pub record StandsTallied (conference : Feed → ℕ → Type 0) (tallies : Tallies) (closed : ℕ) (h : Feed) (n : ℕ) : Type 0 where
  pub stands : conference h n
  pub closed_are : closed ≡ closes h
  pub keeps : Keeps g726 tallies h (sent_to g726 (closes h) h)
