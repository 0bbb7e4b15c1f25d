-- The octets that a session writes, and its summary.
use Rattle.std.specs.Prelude.{ℕ, zero, suc, ◌+◌, List, [], ◌++◌, length, Option, Some, None}
use Rattle.std.specs.List.{flat_map}
use Rattle.roster_text.specs.declared.commands.Timed.{Timed}
use Rattle.rtp_head.specs.Rtp.{head_octets}
use Rattle.rtp_dump.specs.Spelling.{Fault, Capture, record_octets}
use Rattle.rtp_dump.specs.Capture.{capture}
use Rattle.rtp_dump.specs.Writing.{output_head, written as whole}
use Rattle.conference_spec.specs.declared.Packet.{Packet}
use Rattle.conference_spec.specs.Coding.{Coder}
use Rattle.conference_spec.specs.Feed.{Feed}
use Rattle.conference_spec.specs.Packets.{sent, rest}
use Rattle.conference_spec.specs.Tasks.{due}
use Rattle.session_spec.specs.declared.Summary.{Summary}
use Rattle.session_spec.specs.Events.{begin_of, feed_of, refused}
use Rattle.session_spec.specs.Captured.{Meeting, items, ticks_run, met, head_fault, events_over}

-- a packet on the wire: its head, and the octets of its payloads one after the other (RFC 3550, section 5.1)
abbrev pub packet_octets : Packet → List ℕ
packet_octets p = head_octets p.head ++ flat_map (λ octets. octets) p.payload

-- packets as records that are sent at the end of tick k
abbrev pub tick_text : ℕ → List Packet → List ℕ
tick_text k packets = flat_map (λ p. record_octets (whole (begin_of (k + 1)) (packet_octets p))) packets

-- what the ticks before k write
abbrev pub ticks_text : Coder → ℕ → Feed → List ℕ
ticks_text coder zero h = []
ticks_text coder (suc k) h = ticks_text coder k h ++ tick_text k (sent coder k h)

-- the answer up to tick k
abbrev pub answer_to : Coder → ℕ → Feed → List ℕ
answer_to coder k h = output_head ++ ticks_text coder k h

-- the packets of the ticks before k
abbrev pub sent_to : Coder → ℕ → Feed → List Packet
sent_to coder zero h = []
sent_to coder (suc k) h = sent_to coder k h ++ sent coder k h

-- What is left after the last tick, sent a tick later; nothing where a fault is met, which ends the session in its tick.
abbrev pub rest_text : Coder → ℕ → Option Meeting → Feed → List ℕ
rest_text coder ticks None h = tick_text ticks (rest coder h)
rest_text coder ticks (Some fault) h = []

-- what the ticks that can be run write, and what is left after them
abbrev pub text_of : Coder → List Timed → ℕ → Capture → List ℕ
text_of coder plan ticks c =
    let h = feed_of (events_over plan (items c) (ticks_run ticks c)) in
    ticks_text coder (ticks_run ticks c) h ++ rest_text coder ticks (met ticks c) h

-- nothing where the line or the file head of the capture has a fault
abbrev pub after_head : Option Fault → List ℕ → List ℕ
after_head None text = output_head ++ text
after_head (Some fault) text = []

-- All that a session can write: the whole answer, or the answer up to the tick that meets the fault.
unfoldable pub written : Coder → List Timed → ℕ → List ℕ → List ℕ
written coder plan ticks bytes = after_head (head_fault bytes) (text_of coder plan ticks (capture bytes))

-- ticks, runs, packets, and arrivals that were refused
abbrev pub summary_of : Coder → List Timed → ℕ → Capture → Summary
summary_of coder plan ticks c =
    let h = events_over plan (items c) ticks in
    record { ticks = ticks; runs = due coder (feed_of h); packets = length (sent_to coder ticks (feed_of h) ++ rest coder (feed_of h)); refused = refused h }
