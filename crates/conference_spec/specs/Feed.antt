-- The feed: what was done to a conference, the newest entry first.
use Rattle.std.specs.Prelude.{◌≡◌, unwrap_or, if◌then◌else◌, ℕ, ℤ, Bool, true, false, not, ◌&&◌, List, [], ◌∷◌, ◌++◌, length, map, filter, ◌+◌, ◌-◌, ◌==◌, nat_lt, nat_le, Option, Some, None, is_none}
use Rattle.std.specs.List.{list_any}
use Rattle.g726_bits.specs.State.{CodecState}
use Rattle.talk_mix.specs.declared.ticks.Tick.{Tick}
use Rattle.talk_mix.specs.Mix.{mix}
use Rattle.conference_spec.specs.declared.JoinSpec.{JoinSpec}
use Rattle.conference_spec.specs.declared.Entry.{Entry}
use Rattle.conference_spec.specs.declared.Entry.TheVariants.{Join, Leave, Close, Collect, Cut, End}
use Rattle.conference_spec.specs.Coding.{Coder}

abbrev pub Feed : Type 0
Feed = List Entry

-- how many ticks were closed; the k-th close, from 0, closes tick k
abbrev pub closes : Feed → ℕ
closes [] = 0
closes (Close tick ∷ h) = closes h + 1
closes (e ∷ h) = closes h

-- how many ticks were handed out
abbrev pub collects : Feed → ℕ
collects [] = 0
collects (Collect ∷ h) = collects h + 1
collects (e ∷ h) = collects h

abbrev pub ended : Feed → Bool
ended [] = false
ended (End ∷ h) = true
ended (e ∷ h) = ended h

-- what was done up to and with the last cut; nothing, where none was made
abbrev pub cut : Feed → Feed
cut [] = []
cut (Cut ∷ h) = Cut ∷ h
cut (e ∷ h) = cut h

-- how many ticks were closed since
abbrev pub kept : Feed → ℕ
kept h = closes h - closes (cut h)

-- the numbers of all that ever joined
abbrev pub joined : Feed → List ℕ
joined [] = []
joined (Join spec ∷ h) = spec.member ∷ joined h
joined (e ∷ h) = joined h

-- A listener: what it asked for, how many ticks were closed before, the state that it came with, and its mix at each tick
-- since, the newest first.
pub record Listener : Type 0 where
  pub spec : JoinSpec
  pub from : ℕ
  pub first : CodecState
  pub heard : List (List ℤ)

-- a listener at its join
abbrev pub begins : Coder → JoinSpec → ℕ → Listener
begins coder spec k = record { spec = spec; from = k; first = coder.start; heard = [] }

-- the same, after one more tick
abbrev pub hears : Tick → Listener → Listener
hears tick l = record { spec = l.spec; from = l.from; first = l.first; heard = mix l.spec.member tick ∷ l.heard }

-- those who are present, in the order of their joins
abbrev pub listeners : Coder → Feed → List Listener
listeners coder [] = []
listeners coder (Join spec ∷ h) = listeners coder h ++ begins coder spec (closes h) ∷ []
listeners coder (Leave member ∷ h) = filter (λ l. not (l.spec.member == member)) (listeners coder h)
listeners coder (Close tick ∷ h) = map (hears tick) (listeners coder h)
listeners coder (e ∷ h) = listeners coder h

-- the entry may follow this feed
abbrev pub may_follow : Coder → Feed → Entry → Bool
may_follow coder h (Join spec) =
    not (list_any (λ m. m == spec.member) (joined h)) && (nat_lt (length (listeners coder h)) 1024 && not (ended h))
may_follow coder h (Leave member) = list_any (λ l. l.spec.member == member) (listeners coder h) && not (ended h)
may_follow coder h (Close tick) =
    nat_lt (closes h) 4320000 && (nat_lt (kept h) 18000 && (nat_lt (closes h) (collects h + 64) && not (ended h)))
may_follow coder h Collect = nat_lt (collects h) (closes h)
may_follow coder h Cut = (closes h == collects h) && (nat_lt 0 (kept h) && not (ended h))
may_follow coder h End = not (ended h)

-- each entry could follow those before it
abbrev pub is_legal : Coder → Feed → Bool
is_legal coder [] = true
is_legal coder (e ∷ h) = may_follow coder h e && is_legal coder h

-- Whoever has been here: the listener as it is or was when it left, and how many ticks were closed before its leave.
pub record Guest : Type 0 where
  pub listener : Listener
  pub left : Option ℕ

abbrev pub goes : ℕ → ℕ → Guest → Guest
goes member k g =
    if is_none g.left && (g.listener.spec.member == member) then record { listener = g.listener; left = Some k } else g

abbrev pub stays : Tick → Guest → Guest
stays tick g = if is_none g.left then record { listener = hears tick g.listener; left = None } else g

-- everybody who ever joined, in the order of their joins
abbrev pub guests : Coder → Feed → List Guest
guests coder [] = []
guests coder (Join spec ∷ h) = guests coder h ++ record { listener = begins coder spec (closes h); left = None } ∷ []
guests coder (Leave member ∷ h) = map (goes member (closes h)) (guests coder h)
guests coder (Close tick ∷ h) = map (stays tick) (guests coder h)
guests coder (e ∷ h) = guests coder h

-- how many ticks were closed before its leave, or so far where it hasn't left
abbrev pub until : Feed → Guest → ℕ
until h g = unwrap_or g.left (closes h)

-- the guest listens at tick k, where so many ticks are closed
abbrev pub is_at : ℕ → ℕ → Guest → Bool
is_at k closed g = nat_le g.listener.from k && nat_lt k (unwrap_or g.left closed)

-- the guest may be sent packets at tick k: it listens then, or has left since the tick before
abbrev pub is_sent_at : ℕ → Feed → Guest → Bool
is_sent_at k h g = nat_le g.listener.from k && nat_le k (until h g)

-- A guest, and the listener that it was before the close of a tick with these talkers: its mix of that tick comes right
-- after all that the listener had heard.
pub record WasThere (tick : Tick) (g : Guest) (l : Listener) : Type 0 where
  pub spec : g.listener.spec ≡ l.spec
  pub from : g.listener.from ≡ l.from
  pub first : g.listener.first ≡ l.first
  pub later : List (List ℤ)
  pub heard : g.listener.heard ≡ later ++ mix l.spec.member tick ∷ l.heard

-- the feed before the close of tick k, and the talkers that it was closed with
abbrev pub before : ℕ → Feed → Feed
before k [] = []
before k (Close tick ∷ h) = if closes h == k then h else before k h
before k (e ∷ h) = before k h

abbrev pub talkers : ℕ → Feed → Option Tick
talkers k [] = None
talkers k (Close tick ∷ h) = if closes h == k then Some tick else talkers k h
talkers k (e ∷ h) = talkers k h
