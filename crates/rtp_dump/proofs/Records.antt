-- What stands at the front of the octets behind the file head.
use Rattle.std.proofs.Common.{◌≡◌, ◌<◌, ◌≤◌, ◌+◌, ◌-◌, ◌++◌, ◌∷◌, [], ℕ, zero, suc, List, length, drop, refl, ap, ◌∙◌, arith, None}
use Rattle.std.proofs.lemmas.Bool.{le-ltb, lt-ltb}
use Rattle.std.proofs.lemmas.List.{take_at, drop_at, length-append}
use Rattle.byteorder.specs.Endian.{big_bytes}
use Rattle.byteorder.specs.Numbers.{big_number-reads_back}
use Rattle.rtp_dump.specs.declared.item.DumpItem.{DumpItem}
use Rattle.rtp_dump.specs.declared.faults.DumpKind.TheVariants.{TornHead, ShortLength, TornRecord, TooMany}
use Rattle.rtp_dump.specs.Spelling.{Fits, length_word, record_octets}
use Rattle.rtp_dump.specs.Capture.{before, broken, item_at, records_from}

pub records_from-end : (allowed at : ℕ) → records_from allowed at [] ≡ record { records = []; fault = None }
unfolding records_from
records_from-end zero at = refl
records_from-end (suc n) at = refl

pub records_from-too_many : (at : ℕ) (rest : List ℕ) → 0 < length rest → records_from 0 at rest ≡ broken at TooMany
unfolding records_from
records_from-too_many at [] some = absurd (omega arith)
records_from-too_many at (b ∷ rest) some = refl

pub records_from-torn_head : (n at : ℕ) (rest : List ℕ) → 0 < length rest → length rest < 8 → records_from (suc n) at rest ≡ broken at TornHead
unfolding records_from
records_from-torn_head n at [] some few = absurd (omega arith)
records_from-torn_head n at (b ∷ rest) some few = rw (lt-ltb (length (b ∷ rest)) 8 few) refl

pub records_from-short : (n at : ℕ) (rest : List ℕ) → 8 ≤ length rest → length_word rest < 8 → records_from (suc n) at rest ≡ broken at ShortLength
unfolding records_from
records_from-short n at [] long short = absurd (omega arith)
records_from-short n at (b ∷ rest) long short = rw (le-ltb (length (b ∷ rest)) 8 long, lt-ltb (length_word (b ∷ rest)) 8 short) refl

pub records_from-torn : (n at : ℕ) (rest : List ℕ) → 8 ≤ length rest → 8 ≤ length_word rest → length rest < length_word rest → records_from (suc n) at rest ≡ broken at TornRecord
unfolding records_from
records_from-torn n at [] long word torn = absurd (omega arith)
records_from-torn n at (b ∷ rest) long word torn =
    rw (le-ltb (length (b ∷ rest)) 8 long, le-ltb (length_word (b ∷ rest)) 8 word, lt-ltb (length (b ∷ rest)) (length_word (b ∷ rest)) torn) refl

pub records_from-whole : (n at : ℕ) (rest : List ℕ) → 8 ≤ length rest → 8 ≤ length_word rest → length_word rest ≤ length rest
    → records_from (suc n) at rest ≡ before (record { at = at; item = item_at rest }) (records_from n (at + length_word rest) (drop (length_word rest) rest))
unfolding records_from
records_from-whole n at [] long word whole = absurd (omega arith)
records_from-whole n at (b ∷ rest) long word whole =
    rw (le-ltb (length (b ∷ rest)) 8 long, le-ltb (length_word (b ∷ rest)) 8 word, le-ltb (length (b ∷ rest)) (length_word (b ∷ rest)) whole) refl

-- a record by its fields
abbrev item_with : ℕ → ℕ → List ℕ → DumpItem
item_with plen offset octets = record { plen = plen; offset = offset; octets = octets }

same_item : (item : DumpItem) (plen offset : ℕ) (octets : List ℕ) → plen ≡ item.plen → offset ≡ item.offset → octets ≡ item.octets → item_with plen offset octets ≡ item
same_item item plen offset octets p o q = rw (p, o, q) refl

pub length-record_octets : (item : DumpItem) → length (record_octets item) ≡ length item.octets + 8
length-record_octets item = omega arith

-- the length word of a record
pub length_word-record : (item : DumpItem) (left : List ℕ) → Fits item → length_word (record_octets item ++ left) ≡ length item.octets + 8
length_word-record item left fits =
    big_number-reads_back 2 (length item.octets + 8) (big_bytes 2 item.plen ++ big_bytes 4 item.offset ++ item.octets ++ left) (omega (arith, fits.octets))

-- a record is spelled in one way
pub item_at-record : (item : DumpItem) (left : List ℕ) → Fits item → item_at (record_octets item ++ left) ≡ item
item_at-record item left fits =
    same_item item _ _ _
    (big_number-reads_back 2 item.plen (big_bytes 4 item.offset ++ item.octets ++ left) fits.plen)
    (big_number-reads_back 4 item.offset (item.octets ++ left) fits.offset)
    (let word : length_word (record_octets item ++ left) ≡ length item.octets + 8 = length_word-record item left fits in
    take_at item.octets left (length_word (record_octets item ++ left) - 8) (omega arith))

drop-record : (item : DumpItem) (left : List ℕ) (n : ℕ) → n ≡ length item.octets + 8 → drop n (record_octets item ++ left) ≡ left
drop-record item left n e = drop_at (record_octets item) left n (omega arith)

step : (n at : ℕ) (item read : DumpItem) (word : ℕ) (left rest : List ℕ) → read ≡ item → word ≡ length item.octets + 8 → rest ≡ left
    → before (record { at = at; item = read }) (records_from n (at + word) rest) ≡ before (record { at = at; item = item }) (records_from n (at + (length item.octets + 8)) left)
step n at item read word left rest p q r = rw (p, q, r) refl

-- a record that is spelled at the front is read
pub records_from-record : (n at : ℕ) (item : DumpItem) (left : List ℕ) → Fits item
    → records_from (suc n) at (record_octets item ++ left) ≡ before (record { at = at; item = item }) (records_from n (at + (length item.octets + 8)) left)
records_from-record n at item left fits =
    let word : length_word (record_octets item ++ left) ≡ length item.octets + 8 = length_word-record item left fits in
    let len : length (record_octets item ++ left) ≡ length item.octets + 8 + length left = length-append (record_octets item) left ∙ ap (λ (k : ℕ). k + length left) (length-record_octets item) in
    records_from-whole n at (record_octets item ++ left) (omega arith) (omega arith) (omega arith)
    ∙ step n at item _ _ left _ (item_at-record item left fits) word (drop-record item left _ word)
