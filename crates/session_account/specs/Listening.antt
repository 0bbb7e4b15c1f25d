-- Who listened to a conference, for how long, and what it was sent.
use Rattle.std.specs.Prelude.{◌≡◌, ◌≤◌, ℕ, ◌+◌, ◌==◌, ◌&&◌, if◌then◌else◌, List, length, map, Some, is_none, unwrap_or}
use Rattle.conference_spec.specs.Codec.{g726}
use Rattle.conference_spec.specs.Feed.{Feed, Guest, guests, closes}
use Rattle.conference_spec.specs.Packets.{packets}
use Rattle.session_account.specs.declared.visits.Listener.{Listener}
use Rattle.session_account.specs.declared.visits.Visit.{Visit}

-- what is noted of those who ever listened, and how many ticks were closed
pub record Visited : Type 0 where
  pub visits : List Visit
  pub closed : ℕ

-- the visit of a guest
abbrev pub visit_of : Guest → Visit
visit_of g = record {
  member = g.listener.spec.member;
  rate = g.listener.spec.rate;
  bundle = g.listener.spec.ticks;
  from = g.listener.from;
  left = g.left;
}

-- the visit, where a member goes
abbrev pub went : ℕ → ℕ → Visit → Visit
went member closed v = if is_none v.left && (v.member == member) then record v { left = Some closed } else v

-- this is noted of the guests of a feed
pub record Lists (v : Visited) (f : Feed) : Type 0 where
  pub visits : v.visits ≡ map visit_of (guests g726 f)
  pub closed : v.closed ≡ closes f

-- what a guest heard and was sent
abbrev pub listener_of : Guest → Listener
listener_of g = record {
  member = g.listener.spec.member;
  rate = g.listener.spec.rate;
  ticks = length g.listener.heard;
  packets = length (packets g726 g.listener);
}

-- all who ever listened, in the order of their joins
abbrev pub listeners_of : Feed → List Listener
listeners_of f = map listener_of (guests g726 f)

-- it began no later than it ended, or than now where it hasn't
abbrev pub IsPast : Visit → ℕ → Type 0
IsPast v closed = v.from ≤ unwrap_or v.left closed

-- the guest heard each tick from its join to its leave, or to now where it hasn't left
abbrev pub IsAged : Guest → ℕ → Type 0
IsAged g closed = g.listener.from + length g.listener.heard ≡ unwrap_or g.left closed
