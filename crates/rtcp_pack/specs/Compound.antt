-- The packets of an RTCP compound (RFC 3550, sections 6.1 and 6.4 to 6.6): how many there are, or which fault comes first.
use Rattle.std.specs.Prelude.{ℕ, zero, suc, ◌+◌, ◌*◌, ◌-◌, ◌/◌, ◌%◌, Bool, true, false, not, ◌==◌, ◌&&◌, ◌||◌, List, [], ◌∷◌, length, drop, slice_index, slice_range, Result, Ok, Err, nat_lt, nat_le, if◌then◌else◌}
use Rattle.byteorder.specs.Endian.{big_number}
use Rattle.rtcp_pack.specs.declared.compound.RtcpFault.{RtcpFault}
use Rattle.rtcp_pack.specs.declared.compound.RtcpFault.TheVariants.{Short, Version, First, Length, Padding, Body}
use Rattle.rtcp_pack.specs.Chunks.{chunks_fit}

-- V, the two highest bits of the first octet
abbrev pub version : List ℕ → ℕ
version bytes = slice_index bytes 0 / 64

-- P, the bit after them
abbrev pub has_padding : List ℕ → Bool
has_padding bytes = slice_index bytes 0 / 32 % 2 == 1

-- RC or SC, the five lowest bits: how many report blocks, sources or chunks there are
abbrev pub item_count : List ℕ → ℕ
item_count bytes = slice_index bytes 0 % 32

-- PT, the second octet
abbrev pub packet_type : List ℕ → ℕ
packet_type bytes = slice_index bytes 1

-- the octets of the packet, head and padding with it: the third and fourth octet count its words of 32 bits, less one
abbrev pub word_len : List ℕ → ℕ
word_len bytes = 4 + 4 * big_number 2 (drop 2 bytes)

-- SR and RR, the types that a compound may begin with (6.1)
abbrev pub is_report : ℕ → Bool
is_report kind = kind == 200 || kind == 201

-- how many octets of padding the packet's last octet counts, itself included
abbrev pub padding_count : List ℕ → ℕ
padding_count bytes = if has_padding bytes then slice_index bytes (word_len bytes - 1) else 0

-- padding stands before the last packet, is of no octets or of broken words, or is longer than what follows the head
abbrev pub is_padding_wrong : List ℕ → Bool
is_padding_wrong bytes = has_padding bytes
    && (not (word_len bytes == length bytes) || padding_count bytes == 0 || not (padding_count bytes % 4 == 0) || nat_lt (word_len bytes) (4 + padding_count bytes))

-- the octets between the head and the padding
abbrev pub body : List ℕ → List ℕ
body bytes = slice_range bytes 4 (word_len bytes - padding_count bytes)

-- a body holds what its packet counts: SR (6.4.1), RR (6.4.2), SDES (6.5), BYE (6.6); other types aren't looked into
abbrev pub body_fits : ℕ → ℕ → List ℕ → Bool
body_fits kind count octets =
    if kind == 200 then nat_le (24 + 24 * count) (length octets)
    else if kind == 201 then nat_le (4 + 24 * count) (length octets)
    else if kind == 202 then chunks_fit count octets
    else if kind == 203 then nat_le (4 * count) (length octets)
    else true

-- how many octets the packet at the front has, or its first fault
unfoldable pub packet_at : Bool → List ℕ → Result ℕ RtcpFault
packet_at first bytes =
    if nat_lt (length bytes) 4 then Err Short
    else if not (version bytes == 2) then Err Version
    else if first && not (is_report (packet_type bytes)) then Err First
    else if nat_lt (length bytes) (word_len bytes) then Err Length
    else if is_padding_wrong bytes then Err Padding
    else if not (body_fits (packet_type bytes) (item_count bytes) (body bytes)) then Err Body
    else Ok (word_len bytes)

-- so many packets, and then these
abbrev pub counted : ℕ → Result ℕ RtcpFault → Result ℕ RtcpFault
counted before (Err fault) = Err fault
counted before (Ok count) = Ok (before + count)

-- a packet, and then those that its length leaves
abbrev pub and_others : Result ℕ RtcpFault → (ℕ → Result ℕ RtcpFault) → Result ℕ RtcpFault
and_others (Err fault) others = Err fault
and_others (Ok len) others = counted 1 (others len)

-- how many packets follow so many octets, or the first fault of the first packet that has one
unfoldable pub packets_behind : ℕ → List ℕ → Result ℕ RtcpFault
packets_behind before [] = Ok 0
packets_behind (suc before) (b ∷ bytes) = packets_behind before bytes
packets_behind zero (b ∷ bytes) = and_others (packet_at false (b ∷ bytes)) (λ len. packets_behind (len - 1) bytes)

-- the same of a whole compound, whose first packet is a report
unfoldable pub compound : List ℕ → Result ℕ RtcpFault
compound bytes = and_others (packet_at true bytes) (λ len. packets_behind len bytes)
