-- How the feed of a desk whose ticks are collected late stands to that of its session.
use Rattle.std.specs.Prelude.{◌≡◌, ◌≤◌, ◌+◌, ℕ, false, List, [], ◌∷◌, length, map, All}
use Rattle.conference_spec.specs.declared.Entry.TheVariants.{Collect}
use Rattle.conference_spec.specs.Codec.{g726}
use Rattle.conference_spec.specs.Feed.{Feed, closes, collects, ended, guests}
use Rattle.tick_core.specs.Held.{Sent}
use Rattle.desk_run.specs.Handing.{sent_from}

-- a feed, its collects left out
abbrev pub without_collects : Feed → Feed
without_collects [] = []
without_collects (Collect ∷ h) = without_collects h
without_collects (e ∷ h) = e ∷ without_collects h

-- The desk's own feed is the session's but for where its collects stand: n ticks were handed out, and at most 64 that were closed
-- weren't.
pub record HandedOut (desk : Feed → Type 0) (h : Feed) (n : ℕ) : Type 0 where
  pub own : Feed
  pub stands : desk own
  pub same : without_collects own ≡ without_collects h
  pub count : collects own ≡ n
  pub behind : n ≤ closes h
  pub near : closes h ≤ n + 64
  pub open' : ended own ≡ false
  pub lawful : All (λ g. g.listener.spec.pt ≤ 127) (guests g726 h)

-- these ticks were handed out behind the first n
pub record Ready (desk : Feed → Type 0) (h : Feed) (n : ℕ) (ticks : List Sent) : Type 0 where
  pub out : HandedOut desk h (n + length ticks)
  pub packets : map (λ (t : Sent). t.packets) ticks ≡ sent_from n (length ticks) h
