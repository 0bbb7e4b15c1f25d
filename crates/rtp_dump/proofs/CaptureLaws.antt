-- What is read is what is spelled.
use Rattle.std.proofs.Common.{◌≡◌, ◌≢◌, ◌<◌, ◌≤◌, ◌+◌, ◌-◌, ◌++◌, ◌∷◌, [], ℕ, zero, suc, List, length, take, drop, refl, sym, ap, ◌∙◌, subst, arith, Option, Some, None, Result, Ok, Err, inl, inr}
use Rattle.std.specs.Prelude.{codes, replicate, ◌==◌}
use Rattle.std.specs.List.{All, flat_map, AllByRecursion}
use Rattle.std.specs.Option.{option_map}
use Rattle.std.proofs.lemmas.Bool.{cases_lt, eqb-false, le-ltb, lt-ltb}
use Rattle.std.proofs.lemmas.List.{append_assoc, append-nil, drop_at, drop-drop, drop-take, get_or-drop, get_or-take, get_or_past, length-append, length-drop, length-take, take-append-drop}
use Rattle.std.proofs.lemmas.List.Sums.{fails_before_first}
use Rattle.byteorder.specs.Endian.{big_number}
use Rattle.byteorder.specs.Numbers.{big_from-lt, big_from-take}
use Rattle.rtp_dump.specs.declared.item.TheConstants.{MAX_RECORDS}
use Rattle.rtp_dump.specs.declared.item.DumpItem.{DumpItem}
use Rattle.rtp_dump.specs.declared.faults.DumpKind.{DumpKind}
use Rattle.rtp_dump.specs.declared.faults.DumpKind.TheVariants.{NotDump, TornHead, ShortLength, TornRecord, TooMany}
use Rattle.rtp_dump.specs.Spelling.{newline, Capture, Fits, Follows, IsLine, IsNoDump, Placed, Spells, length_word, placed, record_octets}
use Rattle.rtp_dump.specs.Capture.{before, broken, capture, item_at, line_at, records_from}
use Rattle.rtp_dump.specs.Writing.{output_head}
use Rattle.rtp_dump.proofs.Lines.{LineFact, line_at-fact}
use Rattle.rtp_dump.proofs.LineLaws.{is_line, line_at-line, longest_front}
use Rattle.rtp_dump.proofs.Numbers.{AreOctets, record_spelled}
use Rattle.rtp_dump.proofs.Records.{length-record_octets, records_from-end, records_from-record, records_from-short, records_from-too_many, records_from-torn, records_from-torn_head}

-- what follows the whole records, where so many more are still allowed
abbrev pub FollowsIn : ℕ → List ℕ → Option DumpKind → Type 0
FollowsIn left rest None = rest ≡ []
FollowsIn left rest (Some NotDump) = ⊥
FollowsIn left rest (Some TooMany) = (left ≡ 0) × (rest ≢ [])
FollowsIn left rest (Some TornHead) = (0 < left) × (rest ≢ []) × (length rest < 8)
FollowsIn left rest (Some ShortLength) = (0 < left) × (8 ≤ length rest) × (length_word rest < 8)
FollowsIn left rest (Some TornRecord) = (0 < left) × (8 ≤ length rest) × (8 ≤ length_word rest) × (length rest < length_word rest)

-- a capture by its items and its end
abbrev pub spelled_by : ℕ → List DumpItem → Option DumpKind → Capture
spelled_by at items end = record {
  records = placed at items;
  fault = option_map (λ kind. record { at = at + length (flat_map record_octets items); kind = kind }) end;
}

-- the same by its place
abbrev with_place : List Placed → ℕ → Option DumpKind → Capture
with_place records at end = record { records = records; fault = option_map (λ kind. record { at = at; kind = kind }) end }

some_octets : (rest : List ℕ) → rest ≢ [] → 0 < length rest
some_octets [] some = absurd (some refl)
some_octets (b ∷ rest) some = omega arith

here : (at : ℕ) (kind : DumpKind) → broken at kind ≡ spelled_by at [] (Some kind)
here at kind = let same : at ≡ at + 0 = omega arith in ap (λ (k : ℕ). broken k kind) same

-- with no record before it
follows_now : (allowed at : ℕ) (rest : List ℕ) (end : Option DumpKind) → FollowsIn allowed rest end → records_from allowed at rest ≡ spelled_by at [] end
follows_now allowed at rest None none = rw none (records_from-end allowed at)
follows_now allowed at rest (Some NotDump) h = absurd h
follows_now allowed at rest (Some TooMany) (full, some) = rw full (records_from-too_many at rest (some_octets rest some) ∙ here at TooMany)
follows_now zero at rest (Some TornHead) (room, some, few) = absurd (omega arith)
follows_now (suc n) at rest (Some TornHead) (room, some, few) = records_from-torn_head n at rest (some_octets rest some) few ∙ here at TornHead
follows_now zero at rest (Some ShortLength) (room, whole, short) = absurd (omega arith)
follows_now (suc n) at rest (Some ShortLength) (room, whole, short) = records_from-short n at rest whole short ∙ here at ShortLength
follows_now zero at rest (Some TornRecord) (room, whole, word, torn) = absurd (omega arith)
follows_now (suc n) at rest (Some TornRecord) (room, whole, word, torn) = records_from-torn n at rest whole word torn ∙ here at TornRecord

-- records that are spelled are read
pub records_from-spelled : (allowed at : ℕ) (items : List DumpItem) (rest : List ℕ) (end : Option DumpKind)
    → AllByRecursion Fits items → length items ≤ allowed → FollowsIn (allowed - length items) rest end
    → records_from allowed at (flat_map record_octets items ++ rest) ≡ spelled_by at items end
records_from-spelled allowed at [] rest end each few follows =
    follows_now allowed at rest end (let P : ℕ → Type 0 = λ left. FollowsIn left rest end in subst P (omega arith) follows)
records_from-spelled zero at (item ∷ items) rest end each few follows = absurd (omega arith)
records_from-spelled (suc n) at (item ∷ items) rest end each few follows =
    let left : suc n - length (item ∷ items) ≡ n - length items = omega arith in
    let P : ℕ → Type 0 = λ left. FollowsIn left rest end in
    let others = records_from-spelled n (at + (length item.octets + 8)) items rest end each.1 (omega arith) (subst P left follows) in
    let place : at + (length item.octets + 8) + length (flat_map record_octets items) ≡ at + length (flat_map record_octets (item ∷ items)) =
    omega (arith, length-append (record_octets item) (flat_map record_octets items), length-record_octets item) in
    ap (records_from (suc n) at) (append_assoc (record_octets item) (flat_map record_octets items) rest)
    ∙ records_from-record n at item (flat_map record_octets items ++ rest) each.0
    ∙ ap (before (record { at = at; item = item })) others
    ∙ ap (λ (k : ℕ). with_place (placed at (item ∷ items)) k end) place

-- the octets of whole records, and what follows them
pub record IsRecords (allowed : ℕ) (octets : List ℕ) : Type 0 where
  pub items : List DumpItem
  pub rest : List ℕ
  pub end : Option DumpKind
  pub each : AllByRecursion Fits items
  pub few : length items ≤ allowed
  pub spelled : octets ≡ flat_map record_octets items ++ rest
  pub follows : FollowsIn (allowed - length items) rest end

-- octets in front of which no record stands
no_record : (allowed : ℕ) (octets : List ℕ) (end : Option DumpKind) → FollowsIn allowed octets end → IsRecords allowed octets
no_record allowed octets end follows = record {
  items = [];
  rest = octets;
  end = end;
  each = tt;
  few = omega arith;
  spelled = refl;
  follows = let P : ℕ → Type 0 = λ left. FollowsIn left octets end in subst P (omega arith) follows;
}

-- a front and a back of octets are octets
octets_of_front : (n : ℕ) (octets : List ℕ) → AreOctets octets → AreOctets (take n octets)
octets_of_front n octets fits = λ i. elim (cases_lt i n) [
  | inl inside ↦ rw (get_or-take n octets i 0 inside) (fits i)
  | inr past ↦ rw (get_or_past (take n octets) i 0 (omega (arith, length-take n octets))) (omega arith)
]

octets_of_back : (n : ℕ) (octets : List ℕ) → AreOctets octets → AreOctets (drop n octets)
octets_of_back n octets fits = λ i. rw (get_or-drop n octets i 0) (fits (n + i))

-- a number in the head stands in the octets
number_of_front : (size n m : ℕ) (octets : List ℕ) → size ≤ m → big_number size (drop n octets) ≡ big_number size (take m (drop n (take (n + m) octets)))
number_of_front size n m octets h =
    sym (ap (λ (l : List ℕ). big_number size (take m l)) (drop-take n m octets)
    ∙ big_from-take 0 size m (take m (drop n octets)) (omega arith) ∙ big_from-take 0 size m (drop n octets) (omega arith))

-- a whole record is spelled by what is read of it
item_spelled : (octets : List ℕ) → AreOctets octets → 8 ≤ length octets → 8 ≤ length_word octets → length_word octets ≤ length octets
    → (record_octets (item_at octets) ++ drop (length_word octets) octets ≡ octets) × Fits (item_at octets)
item_spelled octets fits long word whole =
    let behind : List ℕ = take (length_word octets - 8) (drop 8 octets) in
    let behind_len : length behind ≡ length_word octets - 8 =
    omega (arith, length-take (length_word octets - 8) (drop 8 octets), length-drop 8 octets) in
    let head_len : length (take 8 octets) ≡ 8 = omega (arith, length-take 8 octets) in
    let head : record_octets (item_at octets) ≡ take 8 octets ++ behind =
    record_spelled (take 8 octets) behind head_len (octets_of_front 8 octets fits) (item_at octets)
    (big_from-take 0 2 8 octets (omega arith) ∙ (let P : length_word octets ≡ (length_word octets - 8) + 8 = omega arith in P) ∙ ap (λ (k : ℕ). k + 8) (sym behind_len))
    (number_of_front 2 2 6 octets (omega arith)) (number_of_front 4 4 4 octets (omega arith)) refl in
    let tail : drop (length_word octets) octets ≡ drop (length_word octets - 8) (drop 8 octets) =
    (let len : length_word octets ≡ 8 + (length_word octets - 8) = omega arith in ap (λ (k : ℕ). drop k octets) len)
    ∙ sym (drop-drop (length_word octets - 8) 8 octets) in (
      ap (λ (front : List ℕ). front ++ drop (length_word octets) octets) head
          ∙ append_assoc (take 8 octets) behind (drop (length_word octets) octets)
          ∙ ap (λ (back : List ℕ). take 8 octets ++ (behind ++ back)) tail
          ∙ ap (λ (back : List ℕ). take 8 octets ++ back) (take-append-drop (length_word octets - 8) (drop 8 octets))
          ∙ take-append-drop 8 octets,
      record {
        plen = big_from-lt 0 2 (drop 2 octets) (octets_of_back 2 octets fits);
        offset = big_from-lt 0 4 (drop 4 octets) (octets_of_back 4 octets fits);
        octets = omega (arith, behind_len, big_from-lt 0 2 octets fits);
      },
    )

-- a record before others
one_before : (n : ℕ) (octets : List ℕ) (word : ℕ) (item : DumpItem) → Fits item → record_octets item ++ drop word octets ≡ octets
    → IsRecords n (drop word octets) → IsRecords (suc n) octets
one_before n octets word item fits spelled r =
    let left : n - length r.items ≡ suc n - length (item ∷ r.items) = omega arith in
    let P : ℕ → Type 0 = λ left. FollowsIn left r.rest r.end in
    record {
      items = item ∷ r.items;
      rest = r.rest;
      end = r.end;
      each = (fits, r.each);
      few = omega (arith, r.few);
      spelled = sym spelled ∙ ap (λ (back : List ℕ). record_octets item ++ back) r.spelled
          ∙ sym (append_assoc (record_octets item) (flat_map record_octets r.items) r.rest);
      follows = subst P left r.follows;
    }

-- all octets are records and what follows them
records_spelled : (allowed : ℕ) (octets : List ℕ) → AreOctets octets → IsRecords allowed octets
records_spelled allowed [] fits = no_record allowed [] None refl
records_spelled zero (b ∷ octets) fits = no_record zero (b ∷ octets) (Some TooMany) (refl, λ e. absurd (omega (arith, ap length e)))
records_spelled (suc n) (b ∷ octets) fits =
    let all : List ℕ = b ∷ octets in
    elim (cases_lt (length all) 8) [
      | inl few ↦ no_record (suc n) all (Some TornHead) (omega arith, λ e. absurd (omega (arith, ap length e)), few)
      | inr long ↦ elim (cases_lt (length_word all) 8) [
        | inl short ↦ no_record (suc n) all (Some ShortLength) (omega arith, long, short)
        | inr word ↦ elim (cases_lt (length all) (length_word all)) [
          | inl torn ↦ no_record (suc n) all (Some TornRecord) (omega arith, long, word, torn)
          | inr whole ↦
              let (spelled, fit) = item_spelled all fits long word whole in
              one_before n all (length_word all) (item_at all) fit spelled
              (records_spelled n (drop (length_word all) all) (octets_of_back (length_word all) all fits))
        ]
      ]
    ]

-- the same of a whole capture's records
follows_out : (count : ℕ) (rest : List ℕ) (end : Option DumpKind) → count ≤ MAX_RECORDS → FollowsIn (MAX_RECORDS - count) rest end → Follows count rest end
follows_out count rest None few h = h
follows_out count rest (Some NotDump) few h = h
follows_out count rest (Some TooMany) few (full, some) = (omega arith, some)
follows_out count rest (Some TornHead) few (room, some, short) = (omega arith, some, short)
follows_out count rest (Some ShortLength) few (room, whole, short) = (omega arith, whole, short)
follows_out count rest (Some TornRecord) few (room, whole, word, torn) = (omega arith, whole, word, torn)

follows_in : (count : ℕ) (rest : List ℕ) (end : Option DumpKind) → Follows count rest end → FollowsIn (MAX_RECORDS - count) rest end
follows_in count rest None h = h
follows_in count rest (Some NotDump) h = h
follows_in count rest (Some TooMany) (full, some) = (omega arith, some)
follows_in count rest (Some TornHead) (room, some, short) = (omega arith, some, short)
follows_in count rest (Some ShortLength) (room, whole, short) = (omega arith, whole, short)
follows_in count rest (Some TornRecord) (room, whole, word, torn) = (omega arith, whole, word, torn)

-- without a line
capture-no_line : (octets : List ℕ) (n : ℕ) → line_at octets ≡ Err n → capture octets ≡ broken n NotDump
unfolding capture
capture-no_line octets n found = rw found refl

-- a line, and a file head that is torn
capture-torn : (line rest : List ℕ) → IsLine line → length rest < 16 → capture (line ++ rest) ≡ broken (length line) TornHead
unfolding capture
capture-torn line rest is torn =
    rw (line_at-line line rest is, lt-ltb (length (line ++ rest)) (length line + 16) (omega (arith, length-append line rest))) refl

-- a line and a file head
pub capture-file : (line head rest : List ℕ) → IsLine line → length head ≡ 16 → capture (line ++ (head ++ rest)) ≡ records_from MAX_RECORDS (length line + 16) rest
unfolding capture
capture-file line head rest is size =
    let long : length line + 16 ≤ length (line ++ (head ++ rest)) = omega (arith, length-append line (head ++ rest), length-append head rest) in
    let behind : drop (length line + 16) (line ++ (head ++ rest)) ≡ rest =
    ap (drop (length line + 16)) (sym (append_assoc line head rest))
    ∙ drop_at (line ++ head) rest (length line + 16) (length-append line head ∙ ap (λ (k : ℕ). length line + k) size) in
    rw (line_at-line line (head ++ rest) is, le-ltb (length (line ++ (head ++ rest))) (length line + 16) long, behind) refl

-- line, file head, records and rest, in other parentheses
regrouped : (line head records rest : List ℕ) → line ++ head ++ records ++ rest ≡ line ++ (head ++ (records ++ rest))
regrouped line head records rest = append_assoc (line ++ head) records rest ∙ append_assoc line head (records ++ rest)

-- without a line, the place of the fault is determined
no_line_read : (octets : List ℕ) (found : Capture) (line : Result ℕ ℕ) → line_at octets ≡ line → LineFact octets line → IsNoDump octets found → capture octets ≡ found
no_line_read octets found (Ok len) e fact is =
    absurd (is.no_line (take len octets) (drop len octets) (is_line octets len fact) (sym (take-append-drop len octets)))
no_line_read octets found (Err n) e fact is =
    let l = longest_front octets n fact in
    let same : n ≡ is.at = omega (arith, is.longest.longest n l.within l.begins, l.longest is.at is.longest.within is.longest.begins) in
    capture-no_line octets n e ∙ ap (λ (k : ℕ). broken k NotDump) same ∙ sym is.gives

-- what is spelled so is read
pub spelled_read : (octets : List ℕ) (found : Capture) → Spells octets found → capture octets ≡ found
spelled_read octets found (inl is) = no_line_read octets found (line_at octets) refl (line_at-fact octets) is
spelled_read octets found (inr (inl is)) = ap capture is.spelled ∙ capture-torn is.line is.rest is.is_line is.torn ∙ sym is.gives
spelled_read octets found (inr (inr is)) =
    ap capture (is.spelled ∙ regrouped is.line is.head (flat_map record_octets is.items) is.rest)
    ∙ capture-file is.line is.head (flat_map record_octets is.items ++ is.rest) is.is_line is.is_head
    ∙ records_from-spelled MAX_RECORDS (length is.line + 16) is.items is.rest is.end is.each is.few (follows_in (length is.items) is.rest is.end is.follows)
    ∙ sym is.gives

-- without a line it is no dump
spells_no_dump : (octets : List ℕ) (n : ℕ) → line_at octets ≡ Err n → LineFact octets (Err n) → IsNoDump octets (capture octets)
spells_no_dump octets n e fact = record {
  no_line = λ line rest is split. (let found : Err n ≡ Ok (length line) = sym e ∙ ap line_at split ∙ line_at-line line rest is in absurd (cc));
  at = n;
  longest = longest_front octets n fact;
  gives = capture-no_line octets n e;
}

-- behind a line stand a file head and records, or a torn file head
spells_file : (line rest : List ℕ) → IsLine line → AreOctets rest → Spells (line ++ rest) (capture (line ++ rest))
spells_file line rest is fits = elim (cases_lt (length rest) 16) [
  | inl torn ↦ inr (inl (record { line = line; rest = rest; is_line = is; spelled = refl; torn = torn; gives = capture-torn line rest is torn }))
  | inr long ↦
      let r = records_spelled MAX_RECORDS (drop 16 rest) (octets_of_back 16 rest fits) in
      let size : length (take 16 rest) ≡ 16 = omega (arith, length-take 16 rest) in
      let whole : line ++ rest ≡ line ++ (take 16 rest ++ (flat_map record_octets r.items ++ r.rest)) =
      ap (λ (back : List ℕ). line ++ back) (sym (take-append-drop 16 rest) ∙ ap (λ (back : List ℕ). take 16 rest ++ back) r.spelled) in
      inr (inr (record {
        line = line;
        head = take 16 rest;
        items = r.items;
        rest = r.rest;
        end = r.end;
        is_line = is;
        is_head = size;
        each = r.each;
        few = r.few;
        spelled = whole ∙ sym (regrouped line (take 16 rest) (flat_map record_octets r.items) r.rest);
        follows = follows_out (length r.items) r.rest r.end r.few r.follows;
        gives = ap capture whole ∙ capture-file line (take 16 rest) (flat_map record_octets r.items ++ r.rest) is size
            ∙ records_from-spelled MAX_RECORDS (length line + 16) r.items r.rest r.end r.each r.few r.follows;
      }))
]

spells_by_line : (octets : List ℕ) (line : Result ℕ ℕ) → line_at octets ≡ line → LineFact octets line → AreOctets octets → Spells octets (capture octets)
spells_by_line octets (Err n) e fact fits = inl (spells_no_dump octets n e fact)
spells_by_line octets (Ok len) e fact fits =
    let P : List ℕ → Type 0 = λ all. Spells all (capture all) in
    subst P (take-append-drop len octets) (spells_file (take len octets) (drop len octets) (is_line octets len fact) (octets_of_back len octets fits))

-- what is read is spelled so
pub read_spelled : (octets : List ℕ) → AreOctets octets → Spells octets (capture octets)
read_spelled octets fits = spells_by_line octets (line_at octets) refl (line_at-fact octets) fits

-- each octet of a list is one
pub each_octet : (octets : List ℕ) → All (λ octet. octet < 256) octets → AreOctets octets
each_octet octets each = λ i. elim (cases_lt i (length octets)) [
  | inl inside ↦ each i 0 inside
  | inr past ↦ rw (get_or_past octets i 0 past) (omega arith)
]

-- the line that is written is one
output_line : IsLine (codes "#!rtpplay1.0 0.0.0.0/0" ++ newline ∷ [])
output_line = record {
  text = codes " 0.0.0.0/0";
  spelled = refl;
  one = λ (k, inside, is). eqb-false _ _ (fails_before_first (λ b. b == newline) (codes " 0.0.0.0/0") k newline inside) is;
  short = omega arith;
}

-- what is written is read
pub written_read : (items : List DumpItem) → AllByRecursion Fits items → length items ≤ MAX_RECORDS
    → capture (output_head ++ flat_map record_octets items) ≡ record { records = placed 39 items; fault = None }
written_read items each few =
    spelled_read (output_head ++ flat_map record_octets items) (record { records = placed 39 items; fault = None })
    (inr (inr (record {
      line = codes "#!rtpplay1.0 0.0.0.0/0" ++ newline ∷ [];
      head = replicate 16 0;
      items = items;
      rest = [];
      end = None;
      is_line = output_line;
      is_head = refl;
      each = each;
      few = few;
      spelled = sym (append-nil (output_head ++ flat_map record_octets items));
      follows = refl;
      gives = refl;
    })))
