-- Who talks in a session, what their lines were given, and what becomes of the octets that arrive.
use Rattle.std.specs.Prelude.{ℕ, Bool, true, false, not, ◌-◌, ◌*◌, ◌%◌, ◌==◌, nat_lt, if◌then◌else◌, ℤ, List, [], ◌∷◌, ◌++◌, length, map, filter, find, take, drop, Option, Some, None, Result, Ok, Err}
use Rattle.g726_bits.specs.Rates.{bits_of}
use Rattle.g711_law.specs.Law.{mu_law, a_law}
use Rattle.rtp_head.specs.declared.Parsed.{Parsed}
use Rattle.rtp_head.specs.declared.HeadFault.{HeadFault}
use Rattle.rtp_head.specs.Rtp.{rtp}
use Rattle.roster_text.specs.declared.commands.Law.{Law}
use Rattle.roster_text.specs.declared.commands.Law.TheVariants.{Mu, A, G726}
use Rattle.roster_text.specs.declared.commands.Talk.{Talk}
use Rattle.roster_text.specs.declared.commands.Command.{Command}
use Rattle.roster_text.specs.declared.commands.Command.TheVariants as command
use Rattle.jitter_line.specs.declared.line.Put.{Put}
use Rattle.jitter_line.specs.declared.line.Put.TheVariants as put
use Rattle.jitter_line.specs.Histories.{Packet, packet, Puts, Pulls, History, said}
use Rattle.jitter_line.specs.Standing.{answer}
use Rattle.talk_726.specs.Decoding.{places_of, decoded}
use Rattle.talk_mix.specs.Voices.{Voice}
use Rattle.talk_mix.specs.declared.ticks.Tick.{Tick}
use Rattle.talk_mix.specs.Choice.{chosen}
use Rattle.session_spec.specs.declared.Arrival.{Arrival}
use Rattle.session_spec.specs.declared.Arrival.TheVariants.{Took, Restarted, Cut, Head, Unknown, PayloadType, Empty, TooLong, Ragged, Late, Early}

-- What happens at a desk: a command is applied, a packet arrives, of so many octets on the wire and with these kept, a
-- tick ends, and the conference is cut: it forgets what was collected.
pub data Event : Type 0 where
  Applies : Command → Event
  Hears : (plen : ℕ) → (octets : List ℕ) → Event
  Ticks : Event
  Cuts : Event

-- the newest event comes first
abbrev pub Events : Type 0
Events = List Event

-- A member that talks: its number, its law and SSRC, and what its line was given and asked for.
pub record Talker : Type 0 where
  pub member : ℕ
  pub talk : Talk
  pub line : History

-- the line of a member begins at its join
abbrev pub begins : ℕ → Talk → Talker
begins member talk = record { member = member; talk = talk; line = [] }

-- PCMU and PCMA (RFC 3551, section 6); the codes of G.726 have a type of the talker's own
abbrev pub payload_type : Law → ℕ
payload_type Mu = 0
payload_type A = 8
payload_type (G726 rate pt) = pt

-- the most octets of a payload: 200 ms
abbrev pub longest : Law → ℕ
longest Mu = 1600
longest A = 1600
longest (G726 rate pt) = 200 * bits_of rate

-- the octets aren't whole codes
abbrev pub is_ragged : Law → ℕ → Bool
is_ragged Mu count = false
is_ragged A count = false
is_ragged (G726 rate pt) count = not (8 * count % bits_of rate == 0)

-- what a line is given for a payload: a sample for each octet, or each code and one
abbrev pub placed : Law → List ℕ → List ℤ
placed Mu octets = map mu_law octets
placed A octets = map a_law octets
placed (G726 rate pt) octets = places_of rate octets

-- the frame that a line says next: what it holds, or what the talker's decoder makes of that
abbrev pub spoken : Law → History → List ℤ
spoken Mu h = said h
spoken A h = said h
spoken (G726 rate pt) h = decoded rate h

-- where an arrival goes: it is refused by itself, or put to the line of a member
pub data Way : Type 0 where
  Stops : Arrival → Way
  ToLine : (member : ℕ) → (line : History) → Packet → Way

-- a payload by its length
abbrev pub way_of_payload : Talker → ℕ → List ℕ → Way
way_of_payload t stamp payload =
    if length payload == 0 then Stops Empty
    else if nat_lt (longest t.talk.law) (length payload) then Stops TooLong
    else if is_ragged t.talk.law (length payload) then Stops Ragged
    else ToLine t.member t.line (packet stamp (placed t.talk.law payload))

-- a packet by its talker, and then by its payload type; marker and sequence number aren't looked at
abbrev pub way_to : Option Talker → List ℕ → Parsed → Way
way_to None octets parsed = Stops Unknown
way_to (Some t) octets parsed =
    if not (parsed.head.pt == payload_type t.talk.law) then Stops PayloadType
    else way_of_payload t parsed.head.stamp (take (parsed.to - parsed.from) (drop parsed.from octets))

-- the talker with this SSRC
abbrev pub talker_on : ℕ → List Talker → Option Talker
talker_on ssrc talkers = find (λ t. t.talk.ssrc == ssrc) talkers

-- how it talks
abbrev pub law_of_talker : Option Talker → Option Law
law_of_talker None = None
law_of_talker (Some t) = Some t.talk.law

abbrev pub law_on : ℕ → List Talker → Option Law
law_on ssrc talkers = law_of_talker (talker_on ssrc talkers)

abbrev pub way_by_head : List Talker → List ℕ → Result Parsed HeadFault → Way
way_by_head talkers octets (Err fault) = Stops (Head fault)
way_by_head talkers octets (Ok parsed) = way_to (talker_on parsed.head.ssrc talkers) octets parsed

-- The first refusal that fits, or the line. The packet is the first plen of the octets.
abbrev pub way : List Talker → ℕ → List ℕ → Way
way talkers plen octets =
    if nat_lt (length octets) plen then Stops Cut
    else way_by_head talkers (take plen octets) (rtp (take plen octets))

-- what a line answers
abbrev pub arrival_of : Put → Arrival
arrival_of (put.Took new) = Took new
arrival_of put.Restarted = Restarted
arrival_of put.Late = Late
arrival_of put.Early = Early

abbrev pub arrival_by : Way → Arrival
arrival_by (Stops refusal) = refusal
arrival_by (ToLine member line p) = arrival_of (answer line p)

-- what an arrival is answered, where these talk
abbrev pub arrival : List Talker → ℕ → List ℕ → Arrival
arrival talkers plen octets = arrival_by (way talkers plen octets)

abbrev pub is_accepted : Arrival → Bool
is_accepted (Took new) = true
is_accepted Restarted = true
is_accepted refusal = false

-- a talker, where an arrival goes this way
abbrev pub given : Way → Talker → Talker
given (Stops refusal) t = t
given (ToLine member line p) t = if t.member == member then record t { line = Puts p ∷ t.line } else t

-- a talker, where a frame is pulled from its line
abbrev pub pulled : Talker → Talker
pulled t = record t { line = Pulls ∷ t.line }

-- those who talk, in the order of their joins, after one more event
abbrev pub talkers_after : Event → List Talker → List Talker
talkers_after (Applies (command.Join member None listen)) ts = ts
talkers_after (Applies (command.Join member (Some talk) listen)) ts = ts ++ begins member talk ∷ []
talkers_after (Applies (command.Leave member)) ts = filter (λ t. not (t.member == member)) ts
talkers_after (Hears plen octets) ts = map (given (way ts plen octets)) ts
talkers_after Ticks ts = map pulled ts
talkers_after Cuts ts = ts

-- those who are present and talk
abbrev pub talkers : Events → List Talker
talkers [] = []
talkers (e ∷ h) = talkers_after e (talkers h)

-- what a talker says next
abbrev pub voice : Talker → Voice
voice t = (t.member, spoken t.talk.law t.line)

-- one frame of each talker
abbrev pub frames : Events → List Voice
frames h = map voice (talkers h)

-- those who are heard at the tick that ends now
abbrev pub heard_now : Events → Tick
heard_now h = chosen (frames h)
