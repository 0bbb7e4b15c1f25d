-- What the laws of a line speak of.
use Rattle.std.specs.Prelude.{◌≡◌, ◌<◌, ◌≤◌, ◌^◌, ◌⊎◌, ℕ, suc, [], ◌∷◌, ◌++◌, length, None, false}
use Rattle.jitter_line.specs.Histories.{Packet, Puts, Pulls, History, Fate, First, Taken, TooLate, TooEarly, Restarts, Gauge, fate_of, gauge, cover, offset_of, is_late}

-- the packet is kept
abbrev pub IsTaken : Fate → Type 0
IsTaken First = Unit {0}
IsTaken Taken = Unit {0}
IsTaken Restarts = Unit {0}
IsTaken TooLate = ⊥
IsTaken TooEarly = ⊥

-- the packet doesn't set the position
abbrev pub IsNoStart : Fate → Type 0
IsNoStart First = ⊥
IsNoStart Restarts = ⊥
IsNoStart Taken = Unit {0}
IsNoStart TooLate = Unit {0}
IsNoStart TooEarly = Unit {0}

-- no packet that came since a history set the position
abbrev pub NoneStarts : History → History → Type 0
NoneStarts [] h = Unit {0}
NoneStarts (Puts p ∷ since) h = IsNoStart (fate_of (gauge (since ++ h)) p) × NoneStarts since h
NoneStarts (Pulls ∷ since) h = NoneStarts since h

abbrev pub pulls_in : History → ℕ
pulls_in [] = 0
pulls_in (Puts p ∷ since) = pulls_in since
pulls_in (Pulls ∷ since) = suc (pulls_in since)

-- the packet ends past the position
abbrev pub IsInTime : Gauge → Packet → Type 0
IsInTime g p = is_late (offset_of g p) (length p.samples) ≡ false

-- at a line that stands so, no place is covered by both packets
abbrev pub AreApart : Gauge → Packet → Packet → Type 0
AreApart g p q = (i : ℕ) → (cover (offset_of g p) p.samples i ≡ None) ⊎ (cover (offset_of g q) q.samples i ≡ None)

-- a packet was taken after h, no packet set the position since, and now it comes again: within 46 hours, and in time
pub record ComesAgain (p : Packet) (since h : History) : Type 0 where
  pub stamp : p.stamp < 2 ^ 32
  pub count : length p.samples ≤ 1600
  pub taken : IsTaken (fate_of (gauge h) p)
  pub none_starts : NoneStarts since (Puts p ∷ h)
  pub soon : pulls_in since < 2 ^ 23
  pub in_time : IsInTime (gauge (since ++ Puts p ∷ h)) p

-- a line with a position takes either packet, and they share no place
pub record TakesEither (h : History) (p q : Packet) : Type 0 where
  pub first : fate_of (gauge h) p ≡ Taken
  pub second : fate_of (gauge h) q ≡ Taken
  pub apart : AreApart (gauge h) p q
