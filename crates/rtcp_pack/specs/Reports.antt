-- The reports that are sent, octet by octet (RFC 3550, sections 6.4.1, 6.5 and 6.6).
use Rattle.std.specs.Prelude.{ℕ, ◌+◌, ◌-◌, ◌/◌, ◌%◌, List, [], ◌∷◌, ◌++◌, length, codes, decimal, replicate, if◌then◌else◌}
use Rattle.byteorder.specs.Endian.{big_bytes}
use Rattle.rtcp_pack.specs.declared.report.Report.{Report}

-- SR: no report block, length 6, the SSRC, no wallclock, the RTP timestamp, the packets and the octets that were sent
abbrev pub sender_report : Report → List ℕ
sender_report report =
    128 ∷ 200 ∷ [] ++ big_bytes 2 6 ++ big_bytes 4 report.ssrc ++ replicate 8 0
    ++ big_bytes 4 report.stamp ++ big_bytes 4 report.packets ++ big_bytes 4 report.octets

-- the CNAME of a member
unfoldable pub name : ℕ → List ℕ
name member = codes "m" ++ decimal member ++ codes "@bridge"

-- the chunk of a source: its SSRC, its CNAME with type and length, and 1 to 4 zero octets up to a multiple of four
abbrev pub chunk : ℕ → List ℕ → List ℕ
chunk ssrc text = big_bytes 4 ssrc ++ 1 ∷ length text ∷ text ++ replicate (4 - (2 + length text) % 4) 0

-- SDES: one chunk, and its length in words
abbrev pub description_of : ℕ → List ℕ → List ℕ
description_of ssrc text = 129 ∷ 202 ∷ [] ++ big_bytes 2 (length (chunk ssrc text) / 4) ++ chunk ssrc text

-- the SDES of a member
abbrev pub description : ℕ → ℕ → List ℕ
description ssrc member = description_of ssrc (name member)

-- BYE: one source, length 1, the SSRC
abbrev pub goodbye : ℕ → List ℕ
goodbye ssrc = 129 ∷ 203 ∷ [] ++ big_bytes 2 1 ++ big_bytes 4 ssrc

-- the octets of a report
unfoldable pub report_octets : Report → List ℕ
report_octets report =
    sender_report report ++ description report.ssrc report.member ++ (if report.bye then goodbye report.ssrc else [])
