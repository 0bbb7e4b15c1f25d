-- What is parsed is spelled so.
use Rattle.std.proofs.Common.{◌≡◌, ◌<◌, ◌≤◌, ◌+◌, ◌-◌, ◌*◌, ◌/◌, ◌%◌, ◌^◌, ◌++◌, ◌∷◌, [], ℕ, List, length, take, drop, refl, sym, ap, ◌∙◌, arith, true, false, Bool, cond, Some, None, Ok, ◌⊎◌, inl, inr, get_or}
use Rattle.std.specs.Prelude.{All, IfSome, nat_lt, not, ◌==◌, ◌&&◌, ◌||◌, if◌then◌else◌, is_some}
use Rattle.std.proofs.lemmas.Bool.{cases_eq, cases_lt, eq-eqb, eqb-false, eqb-true, ltb-false, ne_eqb, not-false, or_parts}
use Rattle.std.proofs.lemmas.List.{append_assoc, drop-drop, drop_all, get_or-drop, get_or_past, length-drop, length-take, take-append-drop, take-take, drop-take, take_all, take_more}
use Rattle.byteorder.specs.Endian.{big_number, big_bytes}
use Rattle.byteorder.specs.Numbers.{big_from-lt}
use Rattle.rtp_head.specs.declared.Head.{Head}
use Rattle.rtp_head.specs.declared.Parsed.{Parsed}
use Rattle.rtp_head.specs.Rtp.{Fits, extension_end, has_extension, has_padding, head_of, is_extension_cut, is_padding_wrong, padding_count, payload_start, rtp, sources_end, source_count, version}
use Rattle.rtp_head.specs.Packet.{AreWords, Packet, IsPacket, Extended, extension_octets, padding_octets, parsed_of, spelling}
use Rattle.rtp_head.proofs.Spelled.{spelled_parsed}

-- each is an octet
abbrev pub AreOctets : List ℕ → Type 0
AreOctets bytes = (i : ℕ) → get_or bytes i 0 < 256

-- which way a test went
chosen : {X : Type 0} (b : Bool) (x y z : X) → cond b x y ≡ z → ((b ≡ true) × (x ≡ z)) ⊎ ((b ≡ false) × (y ≡ z))
chosen true x y z e = inl (refl, e)
chosen false x y z e = inr (refl, e)

-- none of the faults fits
record IsSound (bytes : List ℕ) : Type 0 where
  long : 12 ≤ length bytes
  two : version bytes ≡ 2
  sources : sources_end bytes ≤ length bytes
  extension : is_extension_cut bytes ≡ false
  padding : is_padding_wrong bytes ≡ false

sound : (bytes : List ℕ) (parsed : Parsed) → rtp bytes ≡ Ok parsed → IsSound bytes
sound bytes parsed e = elim (chosen (nat_lt (length bytes) 12) _ _ _ e) [
  | inl (short, is) ↦ absurd (cc)
  | inr (long, e2) ↦ elim (chosen (not (version bytes == 2)) _ _ _ e2) [
    | inl (other, is) ↦ absurd (cc)
    | inr (two, e3) ↦ elim (chosen (nat_lt (length bytes) (sources_end bytes)) _ _ _ e3) [
      | inl (past, is) ↦ absurd (cc)
      | inr (sources, e4) ↦ elim (chosen (is_extension_cut bytes) _ _ _ e4) [
        | inl (torn, is) ↦ absurd (cc)
        | inr (extension, e5) ↦ elim (chosen (is_padding_wrong bytes) _ _ _ e5) [
          | inl (wrong, is) ↦ absurd (cc)
          | inr (padding, is) ↦ record {
            long = ltb-false _ _ long;
            two = eqb-true _ _ (not-false _ two);
            sources = ltb-false _ _ sources;
            extension = extension;
            padding = padding;
          }
        ]
      ]
    ]
  ]
]

-- numbers that are read and written again
big_bytes-two : (a b : ℕ) (rest : List ℕ) → a < 256 → b < 256 → big_bytes 2 (big_number 2 (a ∷ b ∷ rest)) ≡ a ∷ b ∷ []
big_bytes-two a b rest p q =
    let x : big_number 2 (a ∷ b ∷ rest) / 256 % 256 ≡ a = omega arith in
    let y : big_number 2 (a ∷ b ∷ rest) % 256 ≡ b = omega arith in
    rw (x, y) refl

big_bytes-four : (a b c d : ℕ) (rest : List ℕ) → a < 256 → b < 256 → c < 256 → d < 256 → big_bytes 4 (big_number 4 (a ∷ b ∷ c ∷ d ∷ rest)) ≡ a ∷ b ∷ c ∷ d ∷ []
big_bytes-four a b c d rest p q r s =
    let w : big_number 4 (a ∷ b ∷ c ∷ d ∷ rest) / 16777216 % 256 ≡ a = omega arith in
    let x : big_number 4 (a ∷ b ∷ c ∷ d ∷ rest) / 65536 % 256 ≡ b = omega arith in
    let y : big_number 4 (a ∷ b ∷ c ∷ d ∷ rest) / 256 % 256 ≡ c = omega arith in
    let z : big_number 4 (a ∷ b ∷ c ∷ d ∷ rest) % 256 ≡ d = omega arith in
    rw (w, x, y, z) refl

-- the first octet is the sum of its fields
first_is : (b : ℕ) → b < 256 → b / 64 ≡ 2 → 128 + (if b / 32 % 2 == 1 then 32 else 0) + (if b / 16 % 2 == 1 then 16 else 0) + b % 16 ≡ b
first_is b fits two = elim (cases_eq (b / 32 % 2) 1) [
  | inl p ↦ elim (cases_eq (b / 16 % 2) 1) [
    | inl x ↦ rw (eq-eqb (b / 32 % 2) 1 p, eq-eqb (b / 16 % 2) 1 x) (omega arith)
    | inr x ↦ rw (eq-eqb (b / 32 % 2) 1 p, ne_eqb (b / 16 % 2) 1 x) (omega arith)
  ]
  | inr p ↦ elim (cases_eq (b / 16 % 2) 1) [
    | inl x ↦ rw (ne_eqb (b / 32 % 2) 1 p, eq-eqb (b / 16 % 2) 1 x) (omega arith)
    | inr x ↦ rw (ne_eqb (b / 32 % 2) 1 p, ne_eqb (b / 16 % 2) 1 x) (omega arith)
  ]
]

-- so is the second
second_is : (b : ℕ) → b < 256 → (if b / 128 == 1 then 128 + b % 128 else b % 128) ≡ b
second_is b fits = elim (cases_eq (b / 128) 1) [
  | inl m ↦ rw (eq-eqb (b / 128) 1 m) (omega arith)
  | inr m ↦ rw (ne_eqb (b / 128) 1 m) (omega arith)
]

-- a list is cut in two behind so many octets
cut : (n k : ℕ) (bytes : List ℕ) → drop n bytes ≡ take k (drop n bytes) ++ drop (n + k) bytes
cut n k bytes = sym (take-append-drop k (drop n bytes)) ∙ ap (λ (back : List ℕ). take k (drop n bytes) ++ back) (drop-drop k n bytes)

-- octets of a back are octets
octets_of_back : (n : ℕ) (bytes : List ℕ) → AreOctets bytes → AreOctets (drop n bytes)
octets_of_back n bytes fits = λ i. rw (get_or-drop n bytes i 0) (fits (n + i))

-- the extension that is read at a place
abbrev extended_at : List ℕ → ℕ → Extended
extended_at bytes at = record {
  profile = big_number 2 (drop at bytes);
  words = take (4 * big_number 2 (drop (at + 2) bytes)) (drop (at + 4) bytes);
}

-- the packet that is read
abbrev packet_at : List ℕ → Packet
packet_at bytes = record {
  head = head_of bytes;
  sources = take (4 * source_count bytes) (drop 12 bytes);
  extension = if has_extension bytes then Some (extended_at bytes (sources_end bytes)) else None;
  payload = take (length bytes - padding_count bytes - payload_start bytes) (drop (payload_start bytes) bytes);
  padding = if has_padding bytes then Some (take (padding_count bytes - 1) (drop (length bytes - padding_count bytes) bytes)) else None;
}

both : {x y p q : List ℕ} → x ≡ p → y ≡ q → x ++ y ≡ p ++ q
both a b = rw (a, b) refl

-- a front in two parts
take_split : (n k : ℕ) (bytes : List ℕ) → take (n + k) bytes ≡ take n bytes ++ take k (drop n bytes)
take_split n k bytes =
    sym (take-append-drop n (take (n + k) bytes))
    ∙ ap (λ (front : List ℕ). front ++ drop n (take (n + k) bytes)) (take-take n (n + k) bytes (omega arith))
    ∙ ap (λ (back : List ℕ). take n bytes ++ back) (drop-take n k bytes)

-- four octets are two numbers
four_spelled : (bytes : List ℕ) → 4 ≤ length bytes → AreOctets bytes → take 4 bytes ≡ big_bytes 2 (big_number 2 bytes) ++ big_bytes 2 (big_number 2 (drop 2 bytes))
four_spelled (a ∷ b ∷ c ∷ d ∷ rest) long fits =
    sym (both (big_bytes-two a b (c ∷ d ∷ rest) (fits 0) (fits 1)) (big_bytes-two c d rest (fits 2) (fits 3)))
four_spelled bytes long fits = absurd (omega arith)

-- an extension is spelled
extension_spelled : (bytes : List ℕ) (at count : ℕ) → AreOctets bytes → at + 4 + 4 * count ≤ length bytes → big_number 2 (drop (at + 2) bytes) ≡ count
    → take (4 + 4 * count) (drop at bytes) ≡ extension_octets (Some (extended_at bytes at))
extension_spelled bytes at count fits room is =
    let extended = extended_at bytes at in
    let four : take 4 (drop at bytes) ≡ big_bytes 2 (big_number 2 (drop at bytes)) ++ big_bytes 2 (big_number 2 (drop 2 (drop at bytes))) =
    four_spelled (drop at bytes) (omega (arith, length-drop at bytes)) (octets_of_back at bytes fits) in
    let words : take (4 * count) (drop 4 (drop at bytes)) ≡ extended.words =
    ap (take (4 * count)) (drop-drop 4 at bytes) ∙ ap (λ (k : ℕ). take (4 * k) (drop (at + 4) bytes)) (sym is) in
    let len : length extended.words ≡ 4 * count =
    ap length (sym words) ∙ omega (arith, length-take (4 * count) (drop 4 (drop at bytes)), length-drop 4 (drop at bytes), length-drop at bytes) in
    let counted : big_number 2 (drop 2 (drop at bytes)) ≡ length extended.words / 4 =
    ap (big_number 2) (drop-drop 2 at bytes) ∙ is ∙ omega (arith, len) in
    take_split 4 (4 * count) (drop at bytes)
    ∙ both (four ∙ ap (λ (k : ℕ). big_bytes 2 (big_number 2 (drop at bytes)) ++ big_bytes 2 k) counted) words

-- padding is spelled
padding_spelled : (bytes : List ℕ) (count : ℕ) → 0 < count → count ≤ length bytes → get_or bytes (length bytes - 1) 0 ≡ count
    → drop (length bytes - count) bytes ≡ padding_octets (Some (take (count - 1) (drop (length bytes - count) bytes)))
padding_spelled bytes count some room last =
    let all : List ℕ = drop (length bytes - count) bytes in
    let len : length all ≡ count = omega (arith, length-drop (length bytes - count) bytes) in
    let one : (count - 1) + 1 ≡ count = omega arith in
    let fill : length (take (count - 1) all) + 1 ≡ count = omega (arith, length-take (count - 1) all) in
    let at : length bytes - count + (count - 1) ≡ length bytes - 1 = omega arith in
    let end : get_or all (count - 1) 0 ≡ count = get_or-drop (length bytes - count) bytes (count - 1) 0 ∙ ap (λ (k : ℕ). get_or bytes k 0) at ∙ last in
    sym (take_all count all (omega arith)) ∙ ap (λ (k : ℕ). take k all) (sym one) ∙ take_more all (count - 1) 0 (omega arith)
    ∙ ap (λ (b : ℕ). take (count - 1) all ++ b ∷ []) (end ∙ sym fill)

spelled_front : {a b x y : ℕ} {p q r s t u : List ℕ} → x ≡ a → y ≡ b → s ≡ p → t ≡ q → u ≡ r → a ∷ b ∷ [] ++ p ++ q ++ r ≡ x ∷ y ∷ [] ++ s ++ t ++ u
spelled_front a b c d e = rw (a, b, c, d, e) refl

-- the twelve octets in front
front_spelled : (bytes : List ℕ) → 12 ≤ length bytes → AreOctets bytes → version bytes ≡ 2
    → take 12 bytes ≡ (128 + (if has_padding bytes then 32 else 0) + (if has_extension bytes then 16 else 0) + source_count bytes)
    ∷ (if (head_of bytes).marker then 128 + (head_of bytes).pt else (head_of bytes).pt) ∷ []
    ++ big_bytes 2 (head_of bytes).seq ++ big_bytes 4 (head_of bytes).stamp ++ big_bytes 4 (head_of bytes).ssrc
front_spelled (a ∷ b ∷ c ∷ d ∷ e ∷ f ∷ g ∷ h ∷ i ∷ j ∷ k ∷ l ∷ rest) long fits two =
    spelled_front (first_is a (fits 0) two) (second_is b (fits 1)) (big_bytes-two c d (e ∷ f ∷ g ∷ h ∷ i ∷ j ∷ k ∷ l ∷ rest) (fits 2) (fits 3))
    (big_bytes-four e f g h (i ∷ j ∷ k ∷ l ∷ rest) (fits 4) (fits 5) (fits 6) (fits 7)) (big_bytes-four i j k l rest (fits 8) (fits 9) (fits 10) (fits 11))
front_spelled bytes long fits two = absurd (omega arith)

-- what stands between the sources and the payload
record HasExtension (bytes : List ℕ) : Type 0 where
  after : sources_end bytes ≤ payload_start bytes
  within : payload_start bytes ≤ length bytes
  spelled : take (payload_start bytes - sources_end bytes) (drop (sources_end bytes) bytes) ≡ extension_octets (packet_at bytes).extension
  fits : IfSome (packet_at bytes).extension (λ extended. (extended.profile < 2 ^ 16) × AreWords extended.words (2 ^ 16))
  flag : is_some (packet_at bytes).extension ≡ has_extension bytes

extension_of : (bytes : List ℕ) → AreOctets bytes → IsSound bytes → (x : Bool) → has_extension bytes ≡ x → HasExtension bytes
extension_of bytes fits s false none = record {
  after = rw none (omega arith);
  within = rw none s.sources;
  spelled = (let nothing : sources_end bytes - sources_end bytes ≡ 0 = omega arith in rw none (ap (λ (k : ℕ). take k (drop (sources_end bytes) bytes)) nothing));
  fits = rw none tt;
  flag = rw none refl;
}
extension_of bytes fits s true some =
    let count : ℕ = big_number 2 (drop (sources_end bytes + 2) bytes) in
    let (first, counted) = or_parts (nat_lt (length bytes) (sources_end bytes + 4)) (nat_lt (length bytes) (extension_end bytes)) (rw some at s.extension) in
    let room : sources_end bytes + 4 + 4 * count ≤ length bytes = ltb-false (length bytes) (extension_end bytes) counted in
    let size : extension_end bytes - sources_end bytes ≡ 4 + 4 * count = omega arith in
    let words : length (extended_at bytes (sources_end bytes)).words ≡ 4 * count =
    omega (arith, length-take (4 * count) (drop (sources_end bytes + 4) bytes), length-drop (sources_end bytes + 4) bytes) in
    record {
      after = rw some (omega arith);
      within = rw some room;
      spelled = rw some (ap (λ (k : ℕ). take k (drop (sources_end bytes) bytes)) size ∙ extension_spelled bytes (sources_end bytes) count fits room refl);
      fits = rw some (
        big_from-lt 0 2 (drop (sources_end bytes) bytes) (octets_of_back (sources_end bytes) bytes fits),
        (count, big_from-lt 0 2 (drop (sources_end bytes + 2) bytes) (octets_of_back (sources_end bytes + 2) bytes fits), words),
      );
      flag = rw some refl;
    }

-- a test that fits, and the others that then don't
and_true : (a b : Bool) → a ≡ true → (a && b) ≡ false → b ≡ false
and_true true b e h = h
and_true false b e h = absurd (cc)

-- the fields of a head can be held
head_fits : (bytes : List ℕ) → AreOctets bytes → Fits (head_of bytes)
head_fits bytes fits = record {
  pt = omega arith;
  seq = big_from-lt 0 2 (drop 2 bytes) (octets_of_back 2 bytes fits);
  stamp = big_from-lt 0 4 (drop 4 bytes) (octets_of_back 4 bytes fits);
  ssrc = big_from-lt 0 4 (drop 8 bytes) (octets_of_back 8 bytes fits);
}

-- what stands behind the payload
record HasPadding (bytes : List ℕ) : Type 0 where
  room : payload_start bytes + padding_count bytes ≤ length bytes
  spelled : drop (length bytes - padding_count bytes) bytes ≡ padding_octets (packet_at bytes).padding
  fits : IfSome (packet_at bytes).padding (λ fill. length fill < 255)
  flag : is_some (packet_at bytes).padding ≡ has_padding bytes

padding_of : (bytes : List ℕ) → AreOctets bytes → IsSound bytes → payload_start bytes ≤ length bytes → (p : Bool) → has_padding bytes ≡ p → HasPadding bytes
padding_of bytes fits s within false none = record {
  room = rw none (omega arith);
  spelled = rw none (drop_all (length bytes - 0) bytes (omega arith));
  fits = rw none tt;
  flag = rw none refl;
}
padding_of bytes fits s within true some =
    let last : ℕ = get_or bytes (length bytes - 1) 0 in
    let count : padding_count bytes ≡ last = rw some refl in
    let (early, past) = or_parts (length bytes == payload_start bytes || padding_count bytes == 0) (nat_lt (length bytes) (payload_start bytes + padding_count bytes))
    (and_true _ _ some s.padding) in
    let (_, nothing) = or_parts (length bytes == payload_start bytes) (padding_count bytes == 0) early in
    let room : payload_start bytes + padding_count bytes ≤ length bytes = ltb-false _ _ past in
    let counted : 0 < last = omega (arith, eqb-false _ _ nothing, count) in
    record {
      room = room;
      spelled = rw some (padding_spelled bytes last counted (omega (arith, room, count)) refl);
      fits = rw some (omega (arith, length-take (last - 1) (drop (length bytes - last) bytes), fits (length bytes - 1), counted));
      flag = rw some refl;
    }

-- where the sources are whole
sources_are : (bytes : List ℕ) → sources_end bytes ≤ length bytes → length (take (4 * source_count bytes) (drop 12 bytes)) ≡ 4 * source_count bytes
sources_are bytes within = omega (arith, length-take (4 * source_count bytes) (drop 12 bytes), length-drop 12 bytes)

-- the parts of the octets, one after the other
parts : (bytes : List ℕ) (start end : ℕ) → sources_end bytes ≤ start → start ≤ end
    → bytes ≡ take 12 bytes ++ take (4 * source_count bytes) (drop 12 bytes) ++ take (start - sources_end bytes) (drop (sources_end bytes) bytes)
    ++ take (end - start) (drop start bytes) ++ drop end bytes
parts bytes start end after before =
    let a : List ℕ = take 12 bytes in
    let b : List ℕ = take (4 * source_count bytes) (drop 12 bytes) in
    let c : List ℕ = take (start - sources_end bytes) (drop (sources_end bytes) bytes) in
    let d : List ℕ = take (end - start) (drop start bytes) in
    let one : sources_end bytes + (start - sources_end bytes) ≡ start = omega arith in
    let two : start + (end - start) ≡ end = omega arith in
    sym (take-append-drop 12 bytes)
    ∙ ap (λ (r : List ℕ). a ++ r) (cut 12 (4 * source_count bytes) bytes)
    ∙ ap (λ (r : List ℕ). a ++ (b ++ r)) (cut (sources_end bytes) (start - sources_end bytes) bytes)
    ∙ ap (λ (k : ℕ). a ++ (b ++ (c ++ drop k bytes))) one
    ∙ ap (λ (r : List ℕ). a ++ (b ++ (c ++ r))) (cut start (end - start) bytes)
    ∙ ap (λ (k : ℕ). a ++ (b ++ (c ++ (d ++ drop k bytes)))) two
    ∙ sym (append_assoc (a ++ b ++ c) d (drop end bytes) ∙ append_assoc (a ++ b) c (d ++ drop end bytes) ∙ append_assoc a b (c ++ (d ++ drop end bytes)))

five : {a b c d e p q r s t : List ℕ} → a ≡ p → b ≡ q → c ≡ r → d ≡ s → e ≡ t → a ++ b ++ c ++ d ++ e ≡ p ++ q ++ r ++ s ++ t
five a b c d e = rw (a, b, c, d, e) refl

-- the octets in front of the sources, by the flags
abbrev front_with : Bool → Bool → ℕ → Head → List ℕ
front_with padding extension count head =
    (128 + (if padding then 32 else 0) + (if extension then 16 else 0) + count) ∷ (if head.marker then 128 + head.pt else head.pt) ∷ []
    ++ big_bytes 2 head.seq ++ big_bytes 4 head.stamp ++ big_bytes 4 head.ssrc

same_front : (p q x y : Bool) (m n : ℕ) (head : Head) → p ≡ q → x ≡ y → m ≡ n → front_with p x m head ≡ front_with q y n head
same_front p q x y m n head a b c = rw (a, b, c) refl

-- what is parsed is spelled so
pub parsed_spelled : (bytes : List ℕ) (parsed : Parsed) → AreOctets bytes → rtp bytes ≡ Ok parsed
    → (packet : Packet) × IsPacket packet × (bytes ≡ spelling packet) × (parsed ≡ parsed_of packet)
parsed_spelled bytes parsed fits found =
    let s = sound bytes parsed found in
    let x = extension_of bytes fits s (has_extension bytes) refl in
    let p = padding_of bytes fits s x.within (has_padding bytes) refl in
    let sources = sources_are bytes s.sources in
    let front : take 12 bytes ≡ front_with (is_some (packet_at bytes).padding) (is_some (packet_at bytes).extension) (length (packet_at bytes).sources / 4) (head_of bytes) =
    front_spelled bytes s.long fits s.two
    ∙ same_front _ _ _ _ _ _ (head_of bytes) (sym p.flag) (sym x.flag) (omega (arith, sources)) in
    let whole : bytes ≡ spelling (packet_at bytes) =
    parts bytes (payload_start bytes) (length bytes - padding_count bytes) x.after (omega (arith, p.room))
    ∙ five front refl x.spelled refl p.spelled in
    let is : IsPacket (packet_at bytes) = record {
      head = head_fits bytes fits;
      sources = (source_count bytes, omega arith, sources);
      extension = x.fits;
      padding = p.fits;
    } in
    let read : Ok parsed ≡ Ok (parsed_of (packet_at bytes)) = sym found ∙ ap rtp whole ∙ spelled_parsed (packet_at bytes) is in
    (packet_at bytes, is, whole, cc)

-- each octet of a list is one
pub each_octet : (octets : List ℕ) → All (λ octet. octet < 256) octets → AreOctets octets
each_octet octets each = λ i. elim (cases_lt i (length octets)) [
  | inl inside ↦ each i 0 inside
  | inr past ↦ rw (get_or_past octets i 0 past) (omega arith)
]
