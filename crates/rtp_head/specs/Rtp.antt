-- The head of an RTP packet (RFC 3550, section 5.1): what its octets say, and which of them are the payload.
use Rattle.std.specs.Prelude.{ℕ, ◌+◌, ◌<◌, ◌^◌, ◌-◌, ◌*◌, ◌/◌, ◌%◌, Bool, not, ◌==◌, ◌&&◌, ◌||◌, List, [], ◌∷◌, ◌++◌, length, drop, slice_index, Result, Ok, Err, nat_lt, if◌then◌else◌}
use Rattle.byteorder.specs.Endian.{big_bytes, big_number}
use Rattle.rtp_head.specs.declared.Head.{Head}
use Rattle.rtp_head.specs.declared.Parsed.{Parsed}
use Rattle.rtp_head.specs.declared.HeadFault.{HeadFault}
use Rattle.rtp_head.specs.declared.HeadFault.TheVariants.{Short, Version, Csrcs, Extension, Padding}

-- V, the two highest bits of the first octet
abbrev pub version : List ℕ → ℕ
version bytes = slice_index bytes 0 / 64

-- P, the bit after them
abbrev pub has_padding : List ℕ → Bool
has_padding bytes = slice_index bytes 0 / 32 % 2 == 1

-- X, the bit after that
abbrev pub has_extension : List ℕ → Bool
has_extension bytes = slice_index bytes 0 / 16 % 2 == 1

-- CC, the four lowest bits
abbrev pub source_count : List ℕ → ℕ
source_count bytes = slice_index bytes 0 % 16

-- the marker, the payload type, the sequence number, the timestamp and the SSRC
abbrev pub head_of : List ℕ → Head
head_of bytes = record {
  marker = slice_index bytes 1 / 128 == 1;
  pt = slice_index bytes 1 % 128;
  seq = big_number 2 (drop 2 bytes);
  stamp = big_number 4 (drop 4 bytes);
  ssrc = big_number 4 (drop 8 bytes);
}

-- where the contributing sources end: after twelve octets and a word for each source
abbrev pub sources_end : List ℕ → ℕ
sources_end bytes = 12 + 4 * source_count bytes

-- where an extension ends: after 16 bits of profile, a count of 16 bits, and as many words
abbrev pub extension_end : List ℕ → ℕ
extension_end bytes = sources_end bytes + 4 + 4 * big_number 2 (drop (sources_end bytes + 2) bytes)

-- where the payload begins
abbrev pub payload_start : List ℕ → ℕ
payload_start bytes = if has_extension bytes then extension_end bytes else sources_end bytes

-- the extension's first word, or one that it counts, goes past the end
abbrev pub is_extension_cut : List ℕ → Bool
is_extension_cut bytes = has_extension bytes && (nat_lt (length bytes) (sources_end bytes + 4) || nat_lt (length bytes) (extension_end bytes))

-- how many octets of padding the last octet counts, itself included
abbrev pub padding_count : List ℕ → ℕ
padding_count bytes = if has_padding bytes then slice_index bytes (length bytes - 1) else 0

-- there is no octet of padding, or the padding is longer than what follows the head
abbrev pub is_padding_wrong : List ℕ → Bool
is_padding_wrong bytes = has_padding bytes
    && (length bytes == payload_start bytes || padding_count bytes == 0 || nat_lt (length bytes) (payload_start bytes + padding_count bytes))

-- the head with the payload's range, or the first fault that fits
abbrev pub rtp : List ℕ → Result Parsed HeadFault
rtp bytes =
    if nat_lt (length bytes) 12 then Err Short
    else if not (version bytes == 2) then Err Version
    else if nat_lt (length bytes) (sources_end bytes) then Err Csrcs
    else if is_extension_cut bytes then Err Extension
    else if is_padding_wrong bytes then Err Padding
    else Ok (record { head = head_of bytes; from = payload_start bytes; to = length bytes - padding_count bytes })

-- what the fields of a head can hold
pub record Fits (head : Head) : Type 0 where
  pub pt : head.pt < 2 ^ 7
  pub seq : head.seq < 2 ^ 16
  pub stamp : head.stamp < 2 ^ 32
  pub ssrc : head.ssrc < 2 ^ 32

-- the twelve octets of a head without padding, extension and contributing sources
abbrev pub head_octets : Head → List ℕ
head_octets head =
    128 ∷ (if head.marker then 128 + head.pt else head.pt) ∷ [] ++ big_bytes 2 head.seq ++ big_bytes 4 head.stamp ++ big_bytes 4 head.ssrc
