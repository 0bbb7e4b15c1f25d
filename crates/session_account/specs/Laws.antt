-- What the laws of reports speak of.
use Rattle.std.specs.Prelude.{ℕ, ◌+◌}
use Rattle.std.specs.List.{sum_by}
use Rattle.session_account.specs.declared.counts.Torn.{Torn}
use Rattle.session_account.specs.declared.counts.Crowd.{Crowd}
use Rattle.session_account.specs.declared.streams.Stream.{Stream}
use Rattle.session_account.specs.Arriving.{Arrived}

-- the packets of an SSRC that weren't accepted
abbrev pub refused_by : Stream → ℕ
refused_by s = s.late + s.early + s.unknown + s.other_type + s.empty + s.too_long + s.ragged

-- the arrivals without a head
abbrev pub torn_all : Torn → ℕ
torn_all t = t.cut + t.short + t.version + t.sources + t.extension + t.padding

-- all that a report says was refused
abbrev pub refused_in : Arrived → ℕ
refused_in a = torn_all a.torn + sum_by (λ (e : ℕ × Stream). refused_by e.1) a.streams

-- all ticks that a report counts
abbrev pub ticks_in : Crowd → ℕ
ticks_in c = c.none + c.one + c.two + c.three
