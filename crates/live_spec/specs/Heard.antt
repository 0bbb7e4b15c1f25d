-- What a live session hears: which datagrams come in which tick, by what a link and a clock tell.
use Rattle.std.specs.Prelude.{ℕ, zero, suc, ◌+◌, ◌-◌, Bool, false, not, ◌&&◌, nat_le, if◌then◌else◌, List, [], ◌∷◌, ◌++◌, length, map, filter, take, drop}
use Rattle.roster_text.specs.declared.commands.Timed.{Timed}
use Rattle.rtp_dump.specs.declared.item.DumpItem.{DumpItem}
use Rattle.udp_edge.specs.declared.turns.Turn.{Turn}
use Rattle.udp_edge.specs.declared.turns.Turn.TheVariants as turns
use Rattle.udp_edge.specs.Time.{later}
use Rattle.session_spec.specs.Talkers.{Events}
use Rattle.session_spec.specs.Events.{begin_of, events}

-- what a clock answers next, and its answers after so many
abbrev pub next_answer : List ℕ → ℕ
next_answer [] = 0
next_answer (now ∷ answers) = now

abbrev pub after_answers : ℕ → List ℕ → List ℕ
after_answers zero answers = answers
after_answers (suc n) answers = after_answers n (later answers)

-- A tick is heard in rounds, each one look for a datagram and then one at the clock. So many rounds it has, by the clock's answers: up to and
-- with the first after which so many milliseconds have gone since the start, and at most so many.
abbrev pub rounds : ℕ → ℕ → ℕ → List ℕ → ℕ
rounds zero gone start answers = 0
rounds (suc most) gone start answers =
    if nat_le gone (next_answer answers - start) then 1 else suc (rounds most gone start (later answers))

-- the rounds of tick k: until the next tick begins, and at most 65,536
unfoldable pub rounds_in : ℕ → ℕ → List ℕ → ℕ
rounds_in k start answers = rounds 65536 (begin_of (k + 1)) start answers

-- What a live session is given by its link and its clock: the turns that come, the start, and the clock's answers after it.
pub record Live : Type 0 where
  pub coming : List Turn
  pub start : ℕ
  pub answers : List ℕ

-- the rounds of the ticks before tick k
abbrev pub rounds_to : Live → ℕ → ℕ
rounds_to live zero = 0
rounds_to live (suc k) = rounds_to live k + rounds_in k live.start (after_answers (rounds_to live k) live.answers)

-- the turns that come in the ticks before tick k, and in tick k
abbrev pub turns_to : Live → ℕ → List Turn
turns_to live k = take (rounds_to live k) live.coming

abbrev pub turns_in : Live → ℕ → List Turn
turns_in live k = take (rounds_in k live.start (after_answers (rounds_to live k) live.answers)) (drop (rounds_to live k) live.coming)

-- what is looked at of a datagram: nothing of one without an octet, and else its first 65,527 octets
abbrev pub looked_at : List ℕ → List (List ℕ)
looked_at [] = []
looked_at (o ∷ octets) = take 65527 (o ∷ octets) ∷ []

abbrev pub datagrams : List Turn → List (List ℕ)
datagrams [] = []
datagrams (turns.Datagram octets from ∷ coming) = looked_at octets ++ datagrams coming
datagrams (turn ∷ coming) = datagrams coming

-- a packet of RTCP and not of RTP, by its second octet (RFC 3550, section 12.1)
abbrev pub is_control : List ℕ → Bool
is_control (first ∷ second ∷ octets) = nat_le 200 second && nat_le second 204
is_control octets = false

-- a datagram as a record of tick k
abbrev pub recorded : ℕ → List ℕ → DumpItem
recorded k octets = record { plen = length octets; offset = begin_of k; octets = octets }

-- the records of tick k: all datagrams that come in it, but those of RTCP
abbrev pub heard : Live → ℕ → List DumpItem
heard live k = map (recorded k) (filter (λ o. not (is_control o)) (datagrams (turns_in live k)))

-- the packets of RTCP that come in the ticks before tick k
abbrev pub controls : Live → ℕ → List (List ℕ)
controls live k = filter is_control (datagrams (turns_to live k))

-- the events of the first ticks of a live session
abbrev pub live_events : List Timed → Live → ℕ → Events
live_events plan live k = events plan (heard live) k

-- the records of the first ticks, one after the other: what a capture of the session would have
abbrev pub recording : Live → ℕ → List DumpItem
recording live zero = []
recording live (suc k) = recording live k ++ heard live k
