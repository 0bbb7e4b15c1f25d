-- Octets that are read as numbers and written again.
use Rattle.std.proofs.Common.{◌≡◌, ◌<◌, ◌+◌, ◌/◌, ◌%◌, ◌++◌, ◌∷◌, [], ℕ, List, length, get_or, take, drop, refl, ap, sym, ◌∙◌, arith}
use Rattle.rtp_dump.specs.declared.item.DumpItem.{DumpItem}
use Rattle.rtp_dump.specs.Spelling.{length_word, record_octets}
use Rattle.std.proofs.lemmas.List.{length-drop, take_all}
use Rattle.byteorder.specs.Endian.{big_bytes, big_number}

-- each is an octet
abbrev pub AreOctets : List ℕ → Type 0
AreOctets bytes = (i : ℕ) → get_or bytes i 0 < 256

pub big_bytes-two : (a b : ℕ) (rest : List ℕ) → a < 256 → b < 256 → big_bytes 2 (big_number 2 (a ∷ b ∷ rest)) ≡ a ∷ b ∷ []
big_bytes-two a b rest p q =
    let x : big_number 2 (a ∷ b ∷ rest) / 256 % 256 ≡ a = omega arith in
    let y : big_number 2 (a ∷ b ∷ rest) % 256 ≡ b = omega arith in
    rw (x, y) refl

pub big_bytes-four : (a b c d : ℕ) (rest : List ℕ) → a < 256 → b < 256 → c < 256 → d < 256 → big_bytes 4 (big_number 4 (a ∷ b ∷ c ∷ d ∷ rest)) ≡ a ∷ b ∷ c ∷ d ∷ []
big_bytes-four a b c d rest p q r s =
    let w : big_number 4 (a ∷ b ∷ c ∷ d ∷ rest) / 16777216 % 256 ≡ a = omega arith in
    let x : big_number 4 (a ∷ b ∷ c ∷ d ∷ rest) / 65536 % 256 ≡ b = omega arith in
    let y : big_number 4 (a ∷ b ∷ c ∷ d ∷ rest) / 256 % 256 ≡ c = omega arith in
    let z : big_number 4 (a ∷ b ∷ c ∷ d ∷ rest) % 256 ≡ d = omega arith in
    rw (w, x, y, z) refl

joined : {x y z p q r : List ℕ} → x ≡ p → y ≡ q → z ≡ r → x ++ y ++ z ≡ p ++ q ++ r
joined a b c = rw (a, b, c) refl

joined_four : {w x y z p q r t : List ℕ} → w ≡ p → x ≡ q → y ≡ r → z ≡ t → w ++ x ++ y ++ z ≡ p ++ q ++ r ++ t
joined_four a b c d = rw (a, b, c, d) refl

-- the head of a record spells the three numbers that are read from it
pub head_spelled : (head : List ℕ) → length head ≡ 8 → AreOctets head
    → big_bytes 2 (big_number 2 head) ++ big_bytes 2 (big_number 2 (drop 2 head)) ++ big_bytes 4 (big_number 4 (drop 4 head)) ≡ head
head_spelled (a ∷ b ∷ c ∷ d ∷ e ∷ f ∷ g ∷ h ∷ []) len fits =
    let x = big_bytes-two a b (c ∷ d ∷ e ∷ f ∷ g ∷ h ∷ []) (fits 0) (fits 1) in
    let y = big_bytes-two c d (e ∷ f ∷ g ∷ h ∷ []) (fits 2) (fits 3) in
    let z = big_bytes-four e f g h [] (fits 4) (fits 5) (fits 6) (fits 7) in
    joined x y z
head_spelled bytes len fits = absurd (omega arith)

-- so does the record that is read from it
pub record_spelled : (head octets : List ℕ) → length head ≡ 8 → AreOctets head → (item : DumpItem)
    → length_word head ≡ length octets + 8 → item.plen ≡ big_number 2 (take 6 (drop 2 head)) → item.offset ≡ big_number 4 (take 4 (drop 4 head)) → item.octets ≡ octets
    → record_octets item ≡ head ++ octets
record_spelled head octets size fits item word plen offset same =
    joined_four (ap (big_bytes 2) (ap (λ (o : List ℕ). length o + 8) same ∙ sym word))
    (ap (big_bytes 2) (plen ∙ ap (big_number 2) (take_all 6 (drop 2 head) (omega (arith, length-drop 2 head)))))
    (ap (big_bytes 4) (offset ∙ ap (big_number 4) (take_all 4 (drop 4 head) (omega (arith, length-drop 4 head))))) same
    ∙ ap (λ (front : List ℕ). front ++ octets) (head_spelled head size fits)
