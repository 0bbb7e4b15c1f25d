-- What the arrivals of a session come to: those without a head by the reason, and the packets of each SSRC.
use Rattle.std.specs.Prelude.{ℕ, ◌+◌, ◌-◌, ◌*◌, ◌/◌, ◌%◌, nat_eq, nat_lt, if◌then◌else◌, List, [], ◌∷◌, length, take, unwrap_or, Option, Some, None, Result, Ok, Err}
use Rattle.std.specs.Map.{lookup}
use Rattle.indexmap.specs.IndexMap.{insert_entry}
use Rattle.g726_bits.specs.Rates.{bits_of}
use Rattle.roster_text.specs.declared.commands.Law.{Law}
use Rattle.roster_text.specs.declared.commands.Law.TheVariants.{Mu, A, G726}
use Rattle.rtp_head.specs.declared.Parsed.{Parsed}
use Rattle.rtp_head.specs.declared.HeadFault.{HeadFault}
use Rattle.rtp_head.specs.declared.HeadFault.TheVariants.{Short, Version, Csrcs, Extension, Padding}
use Rattle.rtp_head.specs.Rtp.{rtp}
use Rattle.session_spec.specs.declared.Arrival.{Arrival}
use Rattle.session_spec.specs.declared.Arrival.TheVariants.{Took, Restarted, Cut, Head, Unknown, PayloadType, Empty, TooLong, Ragged, Late, Early}
use Rattle.session_spec.specs.Talkers.{Events, Applies, Hears, Ticks, Cuts, Talker, talkers, law_on, arrival}
use Rattle.session_account.specs.declared.counts.Torn.{Torn}
use Rattle.session_account.specs.declared.streams.Stream.{Stream}

-- what arrived: what has no head, and each SSRC with what its packets came to, in the order of their first packets
pub record Arrived : Type 0 where
  pub torn : Torn
  pub streams : List (ℕ × Stream)

abbrev pub nothing : Arrived
nothing = record {
  torn = record { cut = 0; short = 0; version = 0; sources = 0; extension = 0; padding = 0 };
  streams = [];
}

-- one more arrival whose head has this fault
abbrev pub with_fault : HeadFault → Torn → Torn
with_fault Short t = record t { short = t.short + 1 }
with_fault Version t = record t { version = t.version + 1 }
with_fault Csrcs t = record t { sources = t.sources + 1 }
with_fault Extension t = record t { extension = t.extension + 1 }
with_fault Padding t = record t { padding = t.padding + 1 }

-- one more arrival, which counts here where it is cut or has no head
abbrev pub torn_by : Arrival → Torn → Torn
torn_by Cut t = record t { cut = t.cut + 1 }
torn_by (Head fault) t = with_fault fault t
torn_by arrival t = t

-- no packet yet, where the first one will have this sequence number
abbrev pub begins : ℕ → Stream
begins seq = record {
  first = seq;
  next = seq;
  packets = 0;
  taken = 0;
  octets = 0;
  fresh = 0;
  lost = 0;
  restarted = 0;
  late = 0;
  early = 0;
  unknown = 0;
  other_type = 0;
  empty = 0;
  too_long = 0;
  ragged = 0;
}

-- how far a sequence number is on from the next one, modulo 2^16
abbrev pub steps_on : ℕ → ℕ → ℕ
steps_on seq next = (seq + 65536 - next % 65536) % 65536

-- the one after the highest sequence number, where this one comes: it is higher where it is fewer than 2^15 on (RFC 3550, A.1)
abbrev pub reached : ℕ → ℕ → ℕ
reached seq next = if nat_lt (steps_on seq next) 32768 then next + (steps_on seq next + 1) else next

-- how many samples so many octets of a payload are, by how its talker talks
abbrev pub samples_in : Option Law → ℕ → ℕ
samples_in None octets = 0
samples_in (Some Mu) octets = octets
samples_in (Some A) octets = octets
samples_in (Some (G726 rate pt)) octets = 8 * octets / bits_of rate

-- one more packet with a payload of so many octets, by how its talker talks and what became of it
abbrev pub answered : Option Law → Arrival → ℕ → Stream → Stream
answered law (Took new) octets s =
    record s { taken = s.taken + 1; octets = s.octets + octets; fresh = s.fresh + new; lost = s.lost + (samples_in law octets - new) }
answered law Restarted octets s = record s { restarted = s.restarted + 1 }
answered law Unknown octets s = record s { unknown = s.unknown + 1 }
answered law PayloadType octets s = record s { other_type = s.other_type + 1 }
answered law Empty octets s = record s { empty = s.empty + 1 }
answered law TooLong octets s = record s { too_long = s.too_long + 1 }
answered law Ragged octets s = record s { ragged = s.ragged + 1 }
answered law Late octets s = record s { late = s.late + 1 }
answered law Early octets s = record s { early = s.early + 1 }
answered law Cut octets s = s
answered law (Head fault) octets s = s

-- one more packet
abbrev pub counted : Option Law → Arrival → Parsed → Stream → Stream
counted law arrival parsed s =
    answered law arrival (parsed.to - parsed.from) (record s { packets = s.packets + 1; next = reached parsed.head.seq s.next })

-- one more packet, in the row of its SSRC
abbrev pub with_packet : Option Law → Arrival → Parsed → List (ℕ × Stream) → List (ℕ × Stream)
with_packet law arrival parsed es =
    insert_entry nat_eq es parsed.head.ssrc
    (counted law arrival parsed (unwrap_or (lookup (nat_eq parsed.head.ssrc) es) (begins parsed.head.seq)))

-- one more arrival, if it has a head
abbrev pub by_head : Option Law → Arrival → Result Parsed HeadFault → List (ℕ × Stream) → List (ℕ × Stream)
by_head law arrival (Ok parsed) es = with_packet law arrival parsed es
by_head law arrival (Err fault) es = es

-- one more arrival, of a packet of so many octets on the wire, and with these kept
abbrev pub heard : Option Law → Arrival → ℕ → List ℕ → Arrived → Arrived
heard law arrival plen octets a = record {
  torn = torn_by arrival a.torn;
  streams = if nat_lt (length octets) plen then a.streams else by_head law arrival (rtp (take plen octets)) a.streams;
}

-- the SSRC of a packet, if it is whole and has a head
abbrev pub ssrc_of : Result Parsed HeadFault → Option ℕ
ssrc_of (Ok parsed) = Some parsed.head.ssrc
ssrc_of (Err fault) = None

abbrev pub ssrc_heard : ℕ → List ℕ → Option ℕ
ssrc_heard plen octets = if nat_lt (length octets) plen then None else ssrc_of (rtp (take plen octets))

-- how somebody talks with this SSRC
abbrev pub law_at : Option ℕ → List Talker → Option Law
law_at None talkers = None
law_at (Some ssrc) talkers = law_on ssrc talkers

-- all that arrived, each answered as the desk answers it
abbrev pub arrived : Events → Arrived
arrived [] = nothing
arrived (Hears plen octets ∷ h) =
    heard (law_at (ssrc_heard plen octets) (talkers h)) (arrival (talkers h) plen octets) plen octets (arrived h)
arrived (Applies c ∷ h) = arrived h
arrived (Ticks ∷ h) = arrived h
arrived (Cuts ∷ h) = arrived h
