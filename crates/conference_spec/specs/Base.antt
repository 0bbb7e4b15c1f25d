-- What a cut keeps of all that was done before it, and what two feeds have in common that go on from equal bases.
use Rattle.std.specs.Prelude.{if◌then◌else◌, ℕ, Bool, true, ◌||◌, ◌≡◌, ◌≤◌, List, [], ◌∷◌, ◌++◌, length, map, filter, nat_lt, is_none}
use Rattle.std.specs.List.{flat_map}
use Rattle.g726_bits.specs.State.{CodecState}
use Rattle.conference_spec.specs.declared.JoinSpec.{JoinSpec}
use Rattle.conference_spec.specs.declared.Stay.{Stay}
use Rattle.conference_spec.specs.Coding.{Coder, after}
use Rattle.conference_spec.specs.Feed.{Feed, Listener, Guest, closes, collects, ended, cut, kept, joined, listeners, guests, is_legal, before, talkers}
use Rattle.conference_spec.specs.Packets.{packets_at, sent, rest}
use Rattle.conference_spec.specs.Tasks.{due, triples}
use Rattle.conference_spec.specs.Machine.{Core, Event, Enters, accepts}

-- the guest is present, or is sent a packet at tick k
abbrev pub stays_on : Coder → ℕ → Guest → Bool
stays_on coder k g = is_none g.left || nat_lt 0 (length (packets_at coder k g.listener))

-- What is kept of a guest where k ticks were closed: the state after all that it heard, and the payloads that no packet
-- before tick k has carried.
abbrev pub stay_of : Coder → ℕ → Guest → Stay
stay_of coder k g = record {
  spec = g.listener.spec;
  from = g.listener.from;
  is_here = is_none g.left;
  ticks = length g.listener.heard;
  state = after coder g.listener.spec.rate g.listener.first g.listener.heard;
  pending = flat_map (λ p. p.payload) (packets_at coder k g.listener);
}

-- What is kept of a feed: how long it is, how many ticks were closed, how many runs are due, the members that ever joined,
-- and the listeners that later ticks ask for, in the order of their joins.
pub record Base : Type 0 where
  pub entries : ℕ
  pub closed : ℕ
  pub runs : ℕ
  pub members : List ℕ
  pub stays : List Stay

abbrev pub base : Coder → Feed → Base
base coder h = record {
  entries = length h;
  closed = closes h;
  runs = due coder h;
  members = joined h;
  stays = map (stay_of coder (closes h)) (filter (stays_on coder (closes h)) (guests coder h));
}

-- a legal feed that is empty or ends with a cut
pub record IsCut (coder : Coder) (h : Feed) : Type 0 where
  pub whole : cut h ≡ h
  pub legal : is_legal coder h ≡ true

-- a listener as a base sees it: how many ticks it has heard, and the state after them
pub record Seen : Type 0 where
  pub spec : JoinSpec
  pub from : ℕ
  pub ticks : ℕ
  pub state : CodecState

abbrev pub seen : Coder → Listener → Seen
seen coder l = record {
  spec = l.spec;
  from = l.from;
  ticks = length l.heard;
  state = after coder l.spec.rate l.first l.heard;
}

-- What two feeds have in common that go on in one way after m closes, from equal bases.
pub record Agree (coder : Coder) (m : ℕ) (g h : Feed) : Type 0 where
  pub legal : is_legal coder g ≡ is_legal coder h
  pub closed : closes g ≡ closes h
  pub collected : collects g ≡ collects h
  pub since : kept g ≡ kept h
  pub over : ended g ≡ ended h
  pub runs : due coder g ≡ due coder h
  pub members : joined g ≡ joined h
  -- who is present, and who listens at each tick from the m-th on
  pub present : map (seen coder) (listeners coder g) ≡ map (seen coder) (listeners coder h)
  pub talking : (k : ℕ) → m ≤ k → talkers k g ≡ talkers k h
  pub listening : (k : ℕ) → m ≤ k → map (seen coder) (listeners coder (before k g)) ≡ map (seen coder) (listeners coder (before k h))
  -- what is to be run and what is sent at each of these ticks
  pub to_run : (k : ℕ) → m ≤ k → triples coder k g ≡ triples coder k h
  pub handed : (k : ℕ) → m ≤ k → sent coder k g ≡ sent coder k h
  pub left : rest coder g ≡ rest coder h
  pub bases : base coder g ≡ base coder h

-- two cores that have done the same since cuts with equal bases
pub record AreTwins (coder : Coder) (p q s : Feed) (c d : Core) : Type 0 where
  pub first : c.feed ≡ s ++ p
  pub second : d.feed ≡ s ++ q
  pub issued : c.issued ≡ d.issued
  pub runs : c.runs ≡ d.runs
  pub first_cut : IsCut coder p
  pub second_cut : IsCut coder q
  pub one_base : base coder p ≡ base coder q

-- what an event appends to the feed
abbrev pub added : Coder → Core → Event → Feed
added coder c (Enters e) = if accepts coder c e then e ∷ [] else []
added coder c e = []
