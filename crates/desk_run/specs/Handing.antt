-- What a conference hands out, and what it is to do for a member that leaves.
use Rattle.std.specs.Prelude.{ℕ, zero, suc, ◌+◌, ◌*◌, ◌==◌, ◌≤◌, if◌then◌else◌, List, [], ◌∷◌, All}
use Rattle.std.specs.List.{list_any}
use Rattle.rtp_dump.specs.Spelling.{record_octets}
use Rattle.rtp_dump.specs.Writing.{written}
use Rattle.conference_spec.specs.declared.Entry.TheVariants.{Leave}
use Rattle.conference_spec.specs.declared.Packet.{Packet}
use Rattle.conference_spec.specs.Codec.{g726}
use Rattle.conference_spec.specs.Feed.{Feed, listeners}
use Rattle.conference_spec.specs.Packets.{sent}
use Rattle.session_spec.specs.Answer.{packet_octets}

-- the feed where a member goes: as it was, unless it listens
abbrev pub leaving : ℕ → Feed → Feed
leaving member h = if list_any (λ l. l.spec.member == member) (listeners g726 h) then Leave member ∷ h else h

-- how many ticks of an answer, from the first one on, and how many packets
pub record Amount : Type 0 where
  pub ticks : ℕ
  pub packets : ℕ

-- the packets of so many ticks from tick n on, tick by tick
abbrev pub sent_from : ℕ → ℕ → Feed → List (List Packet)
sent_from n zero h = []
sent_from n (suc count) h = sent g726 n h ∷ sent_from (suc n) count h

-- a packet as a record that is sent at the end of tick k
abbrev pub packet_text : ℕ → Packet → List ℕ
packet_text k packet = record_octets (written (20 * (k + 1)) (packet_octets packet))

-- each packet has a payload type of 7 bits
abbrev pub IsSendable : List Packet → Type 0
IsSendable packets = All (λ p. p.head.pt ≤ 127) packets
