-- Small sessions, for the checker to compute.
use Rattle.std.specs.Prelude.{ℕ, false, List, [], ◌∷◌, ◌++◌, map, length, replicate, Option, Some, None}
use Rattle.g726_bits.specs.declared.Rate.{Rate}
use Rattle.g726_bits.specs.declared.Rate.TheVariants.{R32}
use Rattle.rtp_head.specs.Rtp.{head_octets}
use Rattle.roster_text.specs.declared.commands.Law.TheVariants.{Mu, G726}
use Rattle.roster_text.specs.declared.commands.Talk.{Talk}
use Rattle.roster_text.specs.declared.commands.Listen.{Listen}
use Rattle.roster_text.specs.declared.commands.Command.TheVariants.{Join, Leave}
use Rattle.roster_text.specs.declared.commands.Timed.{Timed}
use Rattle.rtp_dump.specs.declared.item.DumpItem.{DumpItem}
use Rattle.rtp_dump.specs.Spelling.{record_octets}
use Rattle.rtp_dump.specs.Writing.{output_head}
use Rattle.session_spec.specs.Talkers.{Event, Applies, Hears, Events}
use Rattle.session_spec.specs.Captured.{heard_in}

-- a packet of PCMU of so many samples, the loudest ones
abbrev pub speech : ℕ → ℕ → ℕ → ℕ → List ℕ
speech ssrc pt stamp count = head_octets (record { marker = false; pt = pt; seq = 0; stamp = stamp; ssrc = ssrc }) ++ replicate count 0x80

-- the record of such a packet of 160 samples
abbrev pub recorded : ℕ → ℕ → ℕ → DumpItem
recorded offset ssrc stamp = record { plen = 172; offset = offset; octets = speech ssrc 0 stamp 160 }

abbrev pub talking : ℕ → Option Talk
talking ssrc = Some (record { law = Mu; ssrc = ssrc })

-- so many ticks in each packet
abbrev pub bundled : ℕ → ℕ → Option Listen
bundled ticks ssrc = Some (record { rate = R32; pt = 96; ssrc = ssrc; first_seq = 0; first_stamp = 0; ticks = ticks })

abbrev pub listening : ℕ → Option Listen
listening ssrc = bundled 1 ssrc

abbrev pub joins : ℕ → Option Talk → Option Listen → Timed
joins member talk listen = record { at = 0; command = Join member talk listen }

-- one listener
abbrev pub alone : List Timed
alone = joins 1 None (listening 7) ∷ []

-- one listener, with so many ticks in each packet
abbrev pub in_bundles : ℕ → List Timed
in_bundles ticks = joins 1 None (bundled ticks 7) ∷ []

-- a talker, and a listener
abbrev pub pair : List Timed
pair = joins 1 (talking 5) None ∷ joins 2 None (listening 7) ∷ []

-- five listeners, of whom the first talks
abbrev pub five : List Timed
five =
    joins 1 (talking 101) (listening 201) ∷ joins 2 None (listening 202) ∷ joins 3 None (listening 203)
    ∷ joins 4 None (listening 204) ∷ joins 5 None (listening 205) ∷ []

-- the second talker comes and leaves
abbrev pub leaving : Events
leaving = Applies (Leave 2) ∷ Applies (Join 2 (talking 6) None) ∷ Applies (Join 1 (talking 5) None) ∷ []

-- the first talker's line began with timestamp 0
abbrev pub began : Events
began = Hears 172 (speech 5 0 0 160) ∷ leaving

-- a talker of G.726 at this rate, with payload type 100
abbrev pub coding : Rate → Events
coding rate = Applies (Join 1 (Some (record { law = G726 rate 100; ssrc = 5 })) None) ∷ []

-- a packet that ends at the position comes again and again
abbrev pub late : List Event
late = replicate 24 (Hears 172 (speech 5 0 4294966656 160))

-- a capture: the line, the file head, and records
abbrev pub captured : List DumpItem → List ℕ
captured [] = output_head
captured (i ∷ []) = output_head ++ record_octets i
captured (i ∷ j ∷ []) = output_head ++ record_octets i ++ record_octets j
captured (i ∷ j ∷ k ∷ is) = output_head ++ record_octets i ++ record_octets j ++ record_octets k

-- three packets of the talker, one each tick: 579 octets
abbrev pub three : List ℕ
three = captured (recorded 0 5 0 ∷ recorded 20 5 160 ∷ recorded 40 5 320 ∷ [])

-- records at these moments, of RTCP
abbrev pub at_moments : List ℕ → List DumpItem
at_moments moments = map (λ m. record { plen = 0; offset = m; octets = [] }) moments

-- how many records each tick has
abbrev pub counts : List DumpItem → List ℕ → List ℕ
counts items ticks = map (λ k. length (heard_in items k)) ticks

-- what the lone listener is sent at its first tick, by a coder whose payloads are one 0
abbrev pub alone_sent : List ℕ
alone_sent = 0 ∷ 21 ∷ 0 ∷ 13 ∷ 0 ∷ 0 ∷ 0 ∷ 20 ∷ 0x80 ∷ 0xE0 ∷ 0 ∷ 0 ∷ 0 ∷ 0 ∷ 0 ∷ 0 ∷ 0 ∷ 0 ∷ 0 ∷ 7 ∷ 0 ∷ []

-- what it is sent of three ticks, two in each packet: the third is left at the end, and goes out a tick later
abbrev pub left_sent : List ℕ
left_sent =
    0 ∷ 22 ∷ 0 ∷ 14 ∷ 0 ∷ 0 ∷ 0 ∷ 40 ∷ 0x80 ∷ 0xE0 ∷ 0 ∷ 0 ∷ 0 ∷ 0 ∷ 0 ∷ 0 ∷ 0 ∷ 0 ∷ 0 ∷ 7 ∷ 0 ∷ 0
    ∷ 0 ∷ 21 ∷ 0 ∷ 13 ∷ 0 ∷ 0 ∷ 0 ∷ 80 ∷ 0x80 ∷ 0x60 ∷ 0 ∷ 1 ∷ 0 ∷ 0 ∷ 1 ∷ 64 ∷ 0 ∷ 0 ∷ 0 ∷ 7 ∷ 0 ∷ []
