-- Histories whose answers are worked out by hand.
use Rattle.std.specs.Prelude.{ℕ, zero, suc, pos, [], ◌∷◌, replicate}
use Rattle.jitter_line.specs.Histories.{Packet, packet, Event, Puts, History}

-- a packet of 160 samples of this value
abbrev pub steady : ℕ → ℕ → Packet
steady stamp value = packet stamp (replicate 160 (pos value))

-- this event n times more
abbrev pub repeated : ℕ → Event → History → History
repeated zero e h = h
repeated (suc n) e h = e ∷ repeated n e h

-- a line that begins with timestamp 0, so at position -480
abbrev pub began : History
began = Puts (steady 0 1) ∷ []

-- as many packets that end at the position
abbrev pub refused : ℕ → History
refused n = repeated n (Puts (steady 4294966656 2)) began

-- the 25th of them
abbrev pub restarted : History
restarted = Puts (steady 4294966656 2) ∷ refused 24
