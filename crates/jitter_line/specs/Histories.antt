-- What is said at a tick, by the history of what a line was given and asked for. Samples are placed by RTP timestamps,
-- which count modulo 2^32 (RFC 3550, section 5.1).
use Rattle.std.specs.Prelude.{ℕ, zero, suc, Bool, ◌+◌, ◌-◌, ◌*◌, ◌%◌, ◌^◌, ◌==◌, nat_lt, nat_le, if◌then◌else◌, ℤ, pos, List, [], ◌∷◌, length, map, replicate, Option, None, Some, slice_get, unwrap_or}
use Rattle.std.specs.List.{range_with_len}

-- a packet: the RTP timestamp of its first sample, and its samples
pub record Packet : Type 0 where
  pub stamp : ℕ
  pub samples : List ℤ

abbrev pub packet : ℕ → List ℤ → Packet
packet stamp samples = record { stamp = stamp; samples = samples }

-- a packet is put, or a frame is pulled
pub data Event : Type 0 where
  Puts : Packet → Event
  Pulls : Event

-- the newest event comes first
abbrev pub History : Type 0
History = List Event

-- where a line stands: the timestamp of place 0, the pulls since that was set, and the packets refused in succession
pub record Gauge : Type 0 where
  pub origin : Option ℕ
  pub pulls : ℕ
  pub refusals : ℕ

-- the position: the timestamp of the place that is pulled next, if there was a packet at all
abbrev pub position_of : Option ℕ → ℕ → Option ℕ
position_of None pulls = None
position_of (Some origin) pulls = Some ((origin + 160 * pulls) % 2 ^ 32)

-- the difference of a timestamp and the position, from -2^31 to 2^31 - 1, with 2^31 added
abbrev pub offset_from : ℕ → ℕ → ℕ
offset_from position stamp = (stamp + 2 ^ 32 + 2 ^ 31 - position) % 2 ^ 32

-- what becomes of a packet
pub data Fate : Type 0 where
  First Taken TooLate TooEarly Restarts : Fate

-- outside the window a packet is refused, but the 25th in succession restarts the line
abbrev pub outside : ℕ → Fate → Fate
outside refusals refused = if refusals == 24 then Restarts else refused

-- a packet of so many samples ends at or before the position
abbrev pub is_late : ℕ → ℕ → Bool
is_late offset count = nat_le (offset + count) (2 ^ 31)

-- it ends more than 3,200 places past the position
abbrev pub is_early : ℕ → ℕ → Bool
is_early offset count = nat_lt (2 ^ 31 + 3200) (offset + count)

abbrev pub fate_in : ℕ → ℕ → ℕ → Fate
fate_in refusals offset count =
    if is_late offset count then outside refusals TooLate
    else if is_early offset count then outside refusals TooEarly
    else Taken

abbrev pub fate_by : Option ℕ → ℕ → ℕ → ℕ → Fate
fate_by None refusals stamp count = First
fate_by (Some position) refusals stamp count = fate_in refusals (offset_from position stamp) count

abbrev pub fate_of : Gauge → Packet → Fate
fate_of g p = fate_by (position_of g.origin g.pulls) g.refusals p.stamp (length p.samples)

-- a packet that starts the line stands 480 places from the position on
abbrev pub starts_at : ℕ → Gauge
starts_at stamp = record { origin = Some ((stamp + 2 ^ 32 - 480) % 2 ^ 32); pulls = 0; refusals = 0 }

abbrev pub gauge_after : Fate → Gauge → Packet → Gauge
gauge_after First g p = starts_at p.stamp
gauge_after Restarts g p = starts_at p.stamp
gauge_after Taken g p = record g { refusals = 0 }
gauge_after TooLate g p = record g { refusals = g.refusals + 1 }
gauge_after TooEarly g p = record g { refusals = g.refusals + 1 }

-- a line without a position has nothing to move
abbrev pub gauge_pulled : Option ℕ → Gauge → Gauge
gauge_pulled None g = g
gauge_pulled (Some origin) g = record g { pulls = g.pulls + 1 }

abbrev pub gauge : History → Gauge
gauge [] = record { origin = None; pulls = 0; refusals = 0 }
gauge (Puts p ∷ h) = gauge_after (fate_of (gauge h) p) (gauge h) p
gauge (Pulls ∷ h) = gauge_pulled (gauge h).origin (gauge h)

-- the sample of a packet at an offset that falls i places from the position on
abbrev pub cover : ℕ → List ℤ → ℕ → Option ℤ
cover offset samples i = if nat_le offset (i + 2 ^ 31) then slice_get samples (i + 2 ^ 31 - offset) else None

-- the first, if it is there
abbrev pub or_else : Option ℤ → Option ℤ → Option ℤ
or_else None later = later
or_else (Some x) later = Some x

-- how far a packet is from the position, with 2^31 added; the first packet will be 480 places from it
abbrev pub offset_at : Option ℕ → ℕ → ℕ
offset_at None stamp = 2 ^ 31 + 480
offset_at (Some position) stamp = offset_from position stamp

abbrev pub offset_of : Gauge → Packet → ℕ
offset_of g p = offset_at (position_of g.origin g.pulls) p.stamp

-- what a place holds after a packet, where it held this before; pulled places stay as they are
abbrev pub held_after : Fate → Gauge → Packet → Option ℤ → ℕ → Option ℤ
held_after First g p old place = cover (2 ^ 31 + 480) p.samples place
held_after Restarts g p old place = cover (2 ^ 31 + 480) p.samples place
held_after Taken g p old place =
    if nat_lt place (160 * g.pulls) then old
    else or_else old (cover (offset_of g p) p.samples (place - 160 * g.pulls))
held_after TooLate g p old place = old
held_after TooEarly g p old place = old

-- what a place holds, counted from the position at the last start: the sample of the first packet taken since then,
-- and before the place was pulled, that covers it
abbrev pub held : History → ℕ → Option ℤ
held [] place = None
held (Puts p ∷ h) place = held_after (fate_of (gauge h) p) (gauge h) p (held h place) place
held (Pulls ∷ h) place = held h place

-- what is held i places from the position on
abbrev pub ahead : History → ℕ → Option ℤ
ahead h i = held h (160 * (gauge h).pulls + i)

abbrev pub silence : List ℤ
silence = replicate 160 (pos 0)

abbrev pub said_by : Option ℕ → History → List ℤ
said_by None h = silence
said_by (Some origin) h = map (λ i. unwrap_or (ahead h i) (pos 0)) (range_with_len 0 160)

-- the frame that a pull gives: the 160 places from the position on, and 0 for what isn't held
unfoldable pub said : History → List ℤ
said h = said_by (gauge h).origin h

abbrev pub one_if_none : Option ℤ → ℕ
one_if_none None = 1
one_if_none (Some x) = 0

-- a sample at an offset is new where it falls at or past the position, on a place that holds nothing
abbrev pub new_at : (ℕ → Option ℤ) → ℕ → ℕ
new_at places offset = if nat_le (2 ^ 31) offset then one_if_none (places (offset - 2 ^ 31)) else 0

-- how many of the first n samples of a packet are new
abbrev pub new_of : (ℕ → Option ℤ) → ℕ → ℕ → ℕ
new_of places offset zero = 0
new_of places offset (suc n) = new_of places offset n + new_at places (offset + n)
