-- How an RTP packet is spelled (RFC 3550, sections 5.1 and 5.3.1): the head, the contributing sources, the
-- extension, the payload and the padding.
use Rattle.std.specs.Prelude.{◌≡◌, ℕ, ◌+◌, ◌*◌, ◌/◌, ◌^◌, ◌<◌, List, [], ◌∷◌, ◌++◌, length, Option, Some, None, IfSome, is_some, if◌then◌else◌}
use Rattle.byteorder.specs.Endian.{big_bytes}
use Rattle.rtp_head.specs.declared.Head.{Head}
use Rattle.rtp_head.specs.declared.Parsed.{Parsed}
use Rattle.rtp_head.specs.Rtp.{Fits}

-- an extension: its profile, and the octets of its words
pub record Extended : Type 0 where
  pub profile : ℕ
  pub words : List ℕ

-- a packet by its parts; of the padding, the octets before the one that counts them
pub record Packet : Type 0 where
  pub head : Head
  pub sources : List ℕ
  pub extension : Option Extended
  pub payload : List ℕ
  pub padding : Option (List ℕ)

-- octets are so many words of 32 bits, fewer than a limit
abbrev pub AreWords : List ℕ → ℕ → Type 0
AreWords octets limit = (count : ℕ) × (count < limit) × (length octets ≡ 4 * count)

-- what has a spelling: at most 15 sources, 65,535 words of extension and 255 octets of padding
pub record IsPacket (packet : Packet) : Type 0 where
  pub head : Fits packet.head
  pub sources : AreWords packet.sources 16
  pub extension : IfSome packet.extension (λ extended. (extended.profile < 2 ^ 16) × AreWords extended.words (2 ^ 16))
  pub padding : IfSome packet.padding (λ fill. length fill < 255)

abbrev pub extension_octets : Option Extended → List ℕ
extension_octets None = []
extension_octets (Some extended) = big_bytes 2 extended.profile ++ big_bytes 2 (length extended.words / 4) ++ extended.words

abbrev pub padding_octets : Option (List ℕ) → List ℕ
padding_octets None = []
padding_octets (Some fill) = fill ++ (length fill + 1) ∷ []

-- version 2, the two flags and the number of sources
abbrev pub first_octet : Packet → ℕ
first_octet packet =
    128 + (if is_some packet.padding then 32 else 0) + (if is_some packet.extension then 16 else 0) + length packet.sources / 4

-- the octets of a packet
abbrev pub spelling : Packet → List ℕ
spelling packet =
    first_octet packet ∷ (if packet.head.marker then 128 + packet.head.pt else packet.head.pt) ∷ []
    ++ big_bytes 2 packet.head.seq ++ big_bytes 4 packet.head.stamp ++ big_bytes 4 packet.head.ssrc
    ++ packet.sources ++ extension_octets packet.extension ++ packet.payload ++ padding_octets packet.padding

-- where the payload begins
abbrev pub before_payload : Packet → ℕ
before_payload packet = 12 + length packet.sources + length (extension_octets packet.extension)

-- what is parsed of a packet
abbrev pub parsed_of : Packet → Parsed
parsed_of packet = record {
  head = packet.head;
  from = before_payload packet;
  to = before_payload packet + length packet.payload;
}
