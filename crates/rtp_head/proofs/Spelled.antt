-- What is spelled so is parsed.
use Rattle.std.proofs.Common.{◌≡◌, ◌<◌, ◌≤◌, ◌+◌, ◌-◌, ◌*◌, ◌/◌, ◌%◌, ◌^◌, ◌++◌, ◌∷◌, [], ℕ, List, length, drop, refl, sym, ap, ◌∙◌, arith, true, false, Bool, Option, Some, None, Ok, get_or}
use Rattle.std.specs.Prelude.{nat_lt, ◌==◌, ◌&&◌, ◌||◌, if◌then◌else◌, is_some, slice_index}
use Rattle.std.proofs.lemmas.Bool.{eq-eqb, le-ltb, ne_eqb}
use Rattle.std.proofs.lemmas.List.{append_assoc, drop_at, get_or_at, length-append}
use Rattle.byteorder.specs.Endian.{big_number, big_bytes}
use Rattle.byteorder.specs.Numbers.{big_number-reads_back}
use Rattle.rtp_head.specs.declared.Head.{Head}
use Rattle.rtp_head.specs.declared.Parsed.{Parsed}
use Rattle.rtp_head.specs.Rtp.{extension_end, has_extension, has_padding, head_of, is_extension_cut, is_padding_wrong, padding_count, payload_start, rtp, sources_end, version}
use Rattle.rtp_head.specs.Packet.{AreWords, Packet, IsPacket, before_payload, Extended, extension_octets, first_octet, padding_octets, parsed_of, spelling}
use Rattle.rtp_head.proofs.Written.{same_head, marker-second, pt-second}

-- the first octet says what stands in the packet
first_octet_says : (padding extension : Bool) (count : ℕ) → count < 16
    → let first : ℕ = 128 + (if padding then 32 else 0) + (if extension then 16 else 0) + count in
    (first / 64 ≡ 2) × ((first / 32 % 2 == 1) ≡ padding) × ((first / 16 % 2 == 1) ≡ extension) × (first % 16 ≡ count)
first_octet_says true true count few = (omega arith, eq-eqb _ _ (omega arith), eq-eqb _ _ (omega arith), omega arith)
first_octet_says true false count few = (omega arith, eq-eqb _ _ (omega arith), ne_eqb _ _ (omega arith), omega arith)
first_octet_says false true count few = (omega arith, ne_eqb _ _ (omega arith), eq-eqb _ _ (omega arith), omega arith)
first_octet_says false false count few = (omega arith, ne_eqb _ _ (omega arith), ne_eqb _ _ (omega arith), omega arith)

-- none of the faults fits
pub parsed_ok : (bytes : List ℕ) → 12 ≤ length bytes → version bytes ≡ 2 → sources_end bytes ≤ length bytes
    → is_extension_cut bytes ≡ false → is_padding_wrong bytes ≡ false
    → rtp bytes ≡ Ok (record { head = head_of bytes; from = payload_start bytes; to = length bytes - padding_count bytes })
parsed_ok bytes long two sources extension padding =
    rw (le-ltb (length bytes) 12 long, eq-eqb (version bytes) 2 two, le-ltb (length bytes) (sources_end bytes) sources, extension, padding) refl

-- a count of words is a quarter of their octets
quarter : (octets : List ℕ) (limit : ℕ) → AreWords octets limit → (4 * (length octets / 4) ≡ length octets) × (length octets / 4 < limit)
quarter octets limit (count, few, len) = (omega arith, omega arith)

-- a packet by its parts
abbrev packet_of : Head → List ℕ → Option Extended → List ℕ → Option (List ℕ) → Packet
packet_of head sources extension payload padding = record { head = head; sources = sources; extension = extension; payload = payload; padding = padding }

-- the twelve octets in front of the sources
abbrev front_of : Packet → List ℕ
front_of packet =
    first_octet packet ∷ (if packet.head.marker then 128 + packet.head.pt else packet.head.pt) ∷ []
    ++ big_bytes 2 packet.head.seq ++ big_bytes 4 packet.head.stamp ++ big_bytes 4 packet.head.ssrc

-- how long it is
length-spelling : (packet : Packet) → length (spelling packet)
    ≡ 12 + length packet.sources + length (extension_octets packet.extension) + length packet.payload + length (padding_octets packet.padding)
length-spelling packet =
    length-append (front_of packet ++ packet.sources ++ extension_octets packet.extension ++ packet.payload) (padding_octets packet.padding)
    ∙ ap (λ (k : ℕ). k + length (padding_octets packet.padding))
    (length-append (front_of packet ++ packet.sources ++ extension_octets packet.extension) packet.payload
    ∙ ap (λ (k : ℕ). k + length packet.payload)
    (length-append (front_of packet ++ packet.sources) (extension_octets packet.extension)
    ∙ ap (λ (k : ℕ). k + length (extension_octets packet.extension)) (length-append (front_of packet) packet.sources)))

-- where the sources end
sources_end-packet : (packet : Packet) → IsPacket packet → sources_end (spelling packet) ≡ 12 + length packet.sources
sources_end-packet packet is =
    let (whole, few) = quarter packet.sources 16 is.sources in
    let says = first_octet_says (is_some packet.padding) (is_some packet.extension) (length packet.sources / 4) few in
    omega (arith, says.3, whole)

-- an extension's count of words stands behind its profile
words_at : (front sources words payload padding : List ℕ) (profile count : ℕ) → length front ≡ 12 → count < 2 ^ 16
    → big_number 2 (drop (12 + length sources + 2) (front ++ sources ++ (big_bytes 2 profile ++ big_bytes 2 count ++ words) ++ payload ++ padding)) ≡ count
words_at front sources words payload padding profile count size few =
    let same : front ++ sources ++ (big_bytes 2 profile ++ big_bytes 2 count ++ words) ++ payload ++ padding
    ≡ (front ++ sources ++ big_bytes 2 profile) ++ (big_bytes 2 count ++ (words ++ (payload ++ padding))) =
    append_assoc (front ++ sources ++ (big_bytes 2 profile ++ big_bytes 2 count ++ words)) payload padding
    ∙ append_assoc (front ++ sources) (big_bytes 2 profile ++ big_bytes 2 count ++ words) (payload ++ padding)
    ∙ sym (append_assoc (front ++ sources) (big_bytes 2 profile) (big_bytes 2 count ++ (words ++ (payload ++ padding)))) in
    let len : length (front ++ sources ++ big_bytes 2 profile) ≡ 12 + length sources + 2 =
    length-append (front ++ sources) (big_bytes 2 profile) ∙ ap (λ (k : ℕ). k + 2) (length-append front sources ∙ ap (λ (k : ℕ). k + length sources) size) in
    ap (λ (l : List ℕ). big_number 2 (drop (12 + length sources + 2) l)) same
    ∙ ap (big_number 2) (drop_at (front ++ sources ++ big_bytes 2 profile) (big_bytes 2 count ++ (words ++ (payload ++ padding))) (12 + length sources + 2) len)
    ∙ big_number-reads_back 2 count (words ++ (payload ++ padding)) few

-- what the extension comes to: it isn't cut, and the payload begins behind it
record IsPassed (packet : Packet) : Type 0 where
  whole : is_extension_cut (spelling packet) ≡ false
  start : payload_start (spelling packet) ≡ before_payload packet

passes : (head : Head) (sources : List ℕ) (extension : Option Extended) (payload : List ℕ) (padding : Option (List ℕ))
    → IsPacket (packet_of head sources extension payload padding) → IsPassed (packet_of head sources extension payload padding)
passes head sources None payload padding is =
    let packet : Packet = packet_of head sources None payload padding in
    let (whole, few) = quarter sources 16 is.sources in
    let says = first_octet_says (is_some padding) false (length sources / 4) few in
    let none : has_extension (spelling packet) ≡ false = says.2 in
    record { whole = rw none refl; start = rw none (sources_end-packet packet is ∙ omega arith) }
passes head sources (Some extended) payload padding is =
    let packet : Packet = packet_of head sources (Some extended) payload padding in
    let (whole, few) = quarter sources 16 is.sources in
    let (words_whole, words_few) = quarter extended.words (2 ^ 16) is.extension.1 in
    let says = first_octet_says (is_some padding) true (length sources / 4) few in
    let some : has_extension (spelling packet) ≡ true = says.2 in
    let end : sources_end (spelling packet) ≡ 12 + length sources = sources_end-packet packet is in
    let count : big_number 2 (drop (12 + length sources + 2) (spelling packet)) ≡ length extended.words / 4 =
    words_at (front_of packet) sources extended.words payload (padding_octets padding) extended.profile (length extended.words / 4) refl words_few in
    let len : length (spelling packet) ≡ 12 + length sources + (4 + length extended.words) + length payload + length (padding_octets padding) = length-spelling packet ∙ omega arith in
    let last : extension_end (spelling packet) ≡ 12 + length sources + (4 + length extended.words) =
    ap (λ (k : ℕ). k + 4 + 4 * big_number 2 (drop (k + 2) (spelling packet))) end
    ∙ ap (λ (k : ℕ). 12 + length sources + 4 + 4 * k) count ∙ omega (arith, words_whole) in
    let room : nat_lt (length (spelling packet)) (sources_end (spelling packet) + 4) ≡ false = le-ltb _ _ (omega (arith, len, end)) in
    let all : nat_lt (length (spelling packet)) (extension_end (spelling packet)) ≡ false = le-ltb _ _ (omega (arith, len, last)) in
    record { whole = rw (some, room, all) refl; start = rw some (last ∙ omega arith) }

-- no test of three fits
none_of_three : (any a b c : Bool) → a ≡ false → b ≡ false → c ≡ false → (any && (a || b || c)) ≡ false
none_of_three true a b c x y z = rw (x, y, z) refl
none_of_three false a b c x y z = refl

-- what the padding comes to: it is right, and is counted by the last octet
record IsCounted (packet : Packet) : Type 0 where
  right : is_padding_wrong (spelling packet) ≡ false
  count : padding_count (spelling packet) ≡ length (padding_octets packet.padding)

counts : (head : Head) (sources : List ℕ) (extension : Option Extended) (payload : List ℕ) (padding : Option (List ℕ))
    → IsPacket (packet_of head sources extension payload padding) → IsCounted (packet_of head sources extension payload padding)
counts head sources extension payload None is =
    let packet : Packet = packet_of head sources extension payload None in
    let (whole, few) = quarter sources 16 is.sources in
    let says = first_octet_says false (is_some extension) (length sources / 4) few in
    let none : has_padding (spelling packet) ≡ false = says.1 in
    record { right = rw none refl; count = rw none refl }
counts head sources extension payload (Some fill) is =
    let packet : Packet = packet_of head sources extension payload (Some fill) in
    let (whole, few) = quarter sources 16 is.sources in
    let says = first_octet_says true (is_some extension) (length sources / 4) few in
    let some : has_padding (spelling packet) ≡ true = says.1 in
    let all : List ℕ = front_of packet ++ sources ++ extension_octets extension ++ payload in
    let padding_len : length (fill ++ (length fill + 1) ∷ []) ≡ length fill + 1 = length-append fill ((length fill + 1) ∷ []) in
    let len : length (spelling packet) ≡ before_payload packet + length payload + (length fill + 1) = length-spelling packet ∙ omega (arith, padding_len) in
    let before : length (all ++ fill) ≡ length (spelling packet) - 1 =
    omega (arith, length-append all fill, length-append all (fill ++ (length fill + 1) ∷ []), padding_len) in
    let last : slice_index (spelling packet) (length (spelling packet) - 1) ≡ length fill + 1 =
    ap (λ (l : List ℕ). get_or l (length (spelling packet) - 1) 0) (sym (append_assoc all fill ((length fill + 1) ∷ [])))
    ∙ get_or_at (all ++ fill) (length fill + 1) [] 0 (length (spelling packet) - 1) before in
    let count : padding_count (spelling packet) ≡ length fill + 1 = rw some last in
    let start = (passes head sources extension payload (Some fill) is).start in
    let follows : (length (spelling packet) == payload_start (spelling packet)) ≡ false = ne_eqb _ _ (omega (arith, len, start)) in
    let counted : (padding_count (spelling packet) == 0) ≡ false = ne_eqb _ _ (omega (arith, count)) in
    let inside : nat_lt (length (spelling packet)) (payload_start (spelling packet) + padding_count (spelling packet)) ≡ false =
    le-ltb _ _ (omega (arith, len, start, count)) in
    record { right = none_of_three _ _ _ _ follows counted inside; count = count ∙ sym padding_len }

-- the fields come back
head_of-spelling : (packet : Packet) → IsPacket packet → head_of (spelling packet) ≡ packet.head
head_of-spelling packet is =
    let head = packet.head in
    let behind : List ℕ = packet.sources ++ extension_octets packet.extension ++ packet.payload ++ padding_octets packet.padding in
    same_head head _ _ _ _ _
    (marker-second head.marker head.pt (omega (arith, is.head.pt)))
    (pt-second head.marker head.pt (omega (arith, is.head.pt)))
    (big_number-reads_back 2 head.seq (big_bytes 4 head.stamp ++ big_bytes 4 head.ssrc ++ behind) is.head.seq)
    (big_number-reads_back 4 head.stamp (big_bytes 4 head.ssrc ++ behind) is.head.stamp)
    (big_number-reads_back 4 head.ssrc behind is.head.ssrc)

-- what is parsed by its parts
abbrev parsed_with : Head → ℕ → ℕ → Parsed
parsed_with head from to = record { head = head; from = from; to = to }

same_parsed : (head other : Head) (from to start end : ℕ) → head ≡ other → from ≡ start → to ≡ end
    → parsed_with head from to ≡ parsed_with other start end
same_parsed head other from to start end a b c = rw (a, b, c) refl

-- what is spelled so is parsed
pub spelled_parsed : (packet : Packet) → IsPacket packet → rtp (spelling packet) ≡ Ok (parsed_of packet)
spelled_parsed packet is =
    let p = passes packet.head packet.sources packet.extension packet.payload packet.padding is in
    let c = counts packet.head packet.sources packet.extension packet.payload packet.padding is in
    let (whole, few) = quarter packet.sources 16 is.sources in
    let says = first_octet_says (is_some packet.padding) (is_some packet.extension) (length packet.sources / 4) few in
    let len = length-spelling packet in
    let end : sources_end (spelling packet) ≡ 12 + length packet.sources = sources_end-packet packet is in
    parsed_ok (spelling packet) (omega (arith, len)) says.0 (omega (arith, len, end)) p.whole c.right
    ∙ ap Ok (same_parsed _ _ _ _ _ _ (head_of-spelling packet is) p.start (omega (arith, len, c.count)))
