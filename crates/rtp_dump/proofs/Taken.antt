-- What a reader took for a record, and what that shows of the octets that were left.
use Rattle.std.proofs.Common.{◌≡◌, ◌≢◌, ◌<◌, ◌≤◌, ◌+◌, ◌-◌, ◌++◌, ◌∷◌, [], ℕ, suc, List, length, take, drop, min, refl, sym, ap, ◌∙◌, subst, arith, true, false, Bool, cond, Option, Some, None, Ok, Err, ◌⊎◌, inl, inr}
use Rattle.std.specs.Prelude.{IfSome, IsErrOf, nat_lt, ◌==◌}
use Rattle.std.proofs.lemmas.Bool.{eqb-false, eqb-true, ltb-false, ltb-true}
use Rattle.std.proofs.lemmas.List.{take_all, take_min, drop-drop, append_assoc, length-take, length-drop, take-append-drop}
use Rattle.byteorder.specs.Numbers.{big_from-take}
use Rattle.edge_io.specs.Told.{Loses, LosesFewer, Takes}
use Rattle.rtp_dump.specs.declared.item.TheConstants.{MAX_RECORDS}
use Rattle.rtp_dump.specs.declared.item.DumpItem.{DumpItem}
use Rattle.rtp_dump.specs.declared.faults.DumpKind.{DumpKind}
use Rattle.rtp_dump.specs.declared.faults.DumpKind.TheVariants.{TornHead, ShortLength, TornRecord, TooMany}
use Rattle.rtp_dump.specs.Spelling.{Fits, length_word, record_octets}
use Rattle.rtp_dump.specs.Capture.{broken, records_from}
use Rattle.rtp_dump.specs.Reading.{first, IsPartOfRecord, len_behind}
use Rattle.rtp_dump.proofs.Records.{records_from-end, records_from-record, records_from-short, records_from-too_many, records_from-torn, records_from-torn_head}

-- a failed read inside a record's head took a part of a record
pub part_of_head : (old new : Option (List ℕ)) → LosesFewer old new 8 → Loses old new IsPartOfRecord
part_of_head None new h = h
part_of_head (Some rest) new (n, few, left) =
    (take n rest, drop n rest, inl (omega (arith, length-take n rest)), sym (take-append-drop n rest), left)

-- without an octet, the capture ends
pub ends : (old : Option (List ℕ)) (allowed at got : ℕ) → IfSome old (λ octets. got ≡ min (length octets) 8) → got ≡ 0
    → IfSome old (λ rest. first (records_from allowed at rest) ≡ Ok None)
ends None allowed at got told e = tt
ends (Some []) allowed at got told e = ap first (records_from-end allowed at)
ends (Some (b ∷ rest)) allowed at got told e = absurd (omega arith)

-- which way a test went
chosen : {X : Type 0} (b : Bool) (x y z : X) → z ≡ cond b x y → ((b ≡ true) × (z ≡ x)) ⊎ ((b ≡ false) × (z ≡ y))
chosen true x y z e = inl (refl, e)
chosen false x y z e = inr (refl, e)

-- what a head of a record says
pub record SaysLen (records : ℕ) (front : List ℕ) (len : ℕ) : Type 0 where
  pub few : records ≢ MAX_RECORDS
  pub whole : 8 ≤ length front
  pub word : length_word front ≡ len + 8

pub says_len : (records : ℕ) (front : List ℕ) (len : ℕ) → Ok len ≡ len_behind records front → SaysLen records front len
says_len records front len e = elim (chosen (records == MAX_RECORDS) _ _ _ e) [
  | inl (many, ok) ↦ absurd (cc)
  | inr (few, e2) ↦ elim (chosen (nat_lt (length front) 8) _ _ _ e2) [
    | inl (torn, ok) ↦ absurd (cc)
    | inr (whole, e3) ↦ elim (chosen (nat_lt (length_word front) 8) _ _ _ e3) [
      | inl (short, ok) ↦ absurd (cc)
      | inr (long, ok) ↦
          let fits : 8 ≤ length front = ltb-false _ _ whole in
          let word : 8 ≤ length_word front = ltb-false _ _ long in
          let same : len ≡ length_word front - 8 = cc in
          record { few = eqb-false _ _ few; whole = fits; word = omega arith }
    ]
  ]
]

-- one more is still allowed
one_more : (records : ℕ) → records < MAX_RECORDS → MAX_RECORDS - records ≡ suc (MAX_RECORDS - (records + 1))
one_more records few = omega arith

-- the length word stands in the first two octets
word_of_front : (n : ℕ) (rest : List ℕ) → 2 ≤ n → length_word (take n rest) ≡ length_word rest
word_of_front n rest h = big_from-take 0 2 n rest h

-- no head of a record, in the first way that fits
says_fault : (records at : ℕ) (front rest : List ℕ) (kind : DumpKind) → records ≤ MAX_RECORDS
    → 0 < length rest → front ≡ take 8 rest → Err kind ≡ len_behind records front
    → records_from (MAX_RECORDS - records) at rest ≡ broken at kind
says_fault records at front rest kind below some same e = elim (chosen (records == MAX_RECORDS) _ _ _ e) [
  | inl (many, is) ↦
      let full : records ≡ MAX_RECORDS = eqb-true _ _ many in
      let none : MAX_RECORDS - records ≡ 0 = omega arith in
      let named : kind ≡ TooMany = cc in
      rw (none, named) (records_from-too_many at rest some)
  | inr (few, e2) ↦
      let room : records < MAX_RECORDS = omega (arith, eqb-false _ _ few) in
      let len : length front ≡ min 8 (length rest) = ap length same ∙ length-take 8 rest in
      elim (chosen (nat_lt (length front) 8) _ _ _ e2) [
        | inl (torn, is) ↦
            let short : length front < 8 = ltb-true _ _ torn in
            let named : kind ≡ TornHead = cc in
            rw (one_more records room, named) (records_from-torn_head _ at rest some (omega arith))
        | inr (whole, e3) ↦
            let long : 8 ≤ length front = ltb-false _ _ whole in
            let word : length_word front ≡ length_word rest = ap length_word same ∙ word_of_front 8 rest (omega arith) in
            elim (chosen (nat_lt (length_word front) 8) _ _ _ e3) [
              | inl (below_head, is) ↦
                  let small : length_word front < 8 = ltb-true _ _ below_head in
                  let named : kind ≡ ShortLength = cc in
                  rw (one_more records room, named) (records_from-short _ at rest (omega arith) (omega arith))
              | inr (enough, is) ↦ absurd (cc)
            ]
      ]
]

-- what was read, as far as it goes, is the front of what was left
front_of : (got : ℕ) (head rest : List ℕ) → got ≡ min (length rest) 8 → take got head ≡ take got rest → take got head ≡ take 8 rest
front_of got head rest told same = same ∙ ap (λ (k : ℕ). take k rest) (omega arith) ∙ take_min 8 rest

-- where a record should begin, none does
pub no_head : (old cur : Option (List ℕ)) (records at got : ℕ) (head : List ℕ) (kind : DumpKind) → records ≤ MAX_RECORDS
    → IfSome old (λ octets. got ≡ min (length octets) 8) → Takes old cur got head → got ≢ 0
    → Err kind ≡ len_behind records (take got head)
    → IfSome old (λ rest. first (records_from (MAX_RECORDS - records) at rest) ≡ Err (record { at = at; kind = kind }))
no_head None cur records at got head kind below told taken some e = tt
no_head (Some rest) cur records at got head kind below told taken some e =
    ap first (says_fault records at (take got head) rest kind below (omega arith) (front_of got head rest told taken.0) e)

-- a head that says how many octets follow it is whole
whole_head : (records got len : ℕ) (head : List ℕ) → length head ≡ 8 → got ≤ 8 → Ok len ≡ len_behind records (take got head)
    → (got ≡ 8) × SaysLen records head len
whole_head records got len head size most e =
    let says = says_len records (take got head) len e in
    let full : got ≡ 8 = omega (arith, says.whole, length-take got head) in
    let same : take got head ≡ head = take_all got head (omega arith) in
    let P : List ℕ → Type 0 = λ front. SaysLen records front len in
    (full, subst P same says)

-- the length word is that of a head with so many octets behind it
pub word_of_head : (records got len : ℕ) (head octets : List ℕ) → length head ≡ 8 → got ≤ 8 → Ok len ≡ len_behind records (take got head)
    → length octets ≡ len → length_word head ≡ length octets + 8
word_of_head records got len head octets size most e count =
    let (full, says) = whole_head records got len head size most e in
    omega (arith, says.word)

-- so it is the front of what was left
head_is : (got : ℕ) (head rest : List ℕ) → length head ≡ 8 → got ≡ 8 → take got head ≡ take got rest → head ≡ take 8 rest
head_is got head rest size full same =
    sym (take_all got head (omega arith)) ∙ same ∙ ap (λ (k : ℕ). take k rest) full

-- and the rest has that length word
word_is : (head rest : List ℕ) → head ≡ take 8 rest → length_word head ≡ length_word rest
word_is head rest same = ap length_word same ∙ word_of_front 8 rest (omega arith)

-- the octets behind a head are torn
pub torn : (old cur : Option (List ℕ)) (records at got len : ℕ) (head : List ℕ)
    → records ≤ MAX_RECORDS → length head ≡ 8 → got ≤ 8 → Takes old cur got head → Ok len ≡ len_behind records (take got head)
    → IfSome cur (λ rest. length rest < len)
    → IfSome old (λ rest. first (records_from (MAX_RECORDS - records) at rest) ≡ Err (record { at = at; kind = TornRecord }))
torn None cur records at got len head below size most taken e short = tt
torn (Some rest) cur records at got len head below size most taken e short =
    let (full, says) = whole_head records got len head size most e in
    let same : head ≡ take 8 rest = head_is got head rest size full taken.0 in
    let long : 8 ≤ length rest = omega (arith, ap length same, length-take 8 rest) in
    let word : length_word rest ≡ len + 8 = sym (word_is head rest same) ∙ says.word in
    let P : Option (List ℕ) → Type 0 = λ cur. IfSome cur (λ rest. length rest < len) in
    let few : length (drop got rest) < len = subst P taken.1 short in
    let few_left : length rest < length_word rest = omega (arith, length-drop got rest) in
    let room : records < MAX_RECORDS = omega (arith, says.few) in
    rw (one_more records room, records_from-torn (MAX_RECORDS - (records + 1)) at rest long (omega arith) few_left) refl

-- a failed read behind a head took a part of a record
pub part_of_octets : (old cur new : Option (List ℕ)) (records got len : ℕ) (head : List ℕ)
    → length head ≡ 8 → got ≤ 8 → Takes old cur got head → Ok len ≡ len_behind records (take got head)
    → LosesFewer cur new len → Loses old new IsPartOfRecord
part_of_octets None cur new records got len head size most taken e lost =
    let P : Option (List ℕ) → Type 0 = λ cur. LosesFewer cur new len in
    subst P taken lost
part_of_octets (Some rest) cur new records got len head size most taken e lost =
    let (full, says) = whole_head records got len head size most e in
    let same : head ≡ take 8 rest = head_is got head rest size full taken.0 in
    let P : Option (List ℕ) → Type 0 = λ cur. LosesFewer cur new len in
    let left : LosesFewer (Some (drop got rest)) new len = subst P taken.1 lost in
    let word : length_word (take (got + left.0) rest) ≡ len + 8 = word_of_front (got + left.0) rest (omega arith) ∙ sym (word_is head rest same) ∙ says.word in
    let size : length (take (got + left.0) rest) ≤ got + left.0 = omega (arith, length-take (got + left.0) rest) in (
      take (got + left.0) rest,
      drop (got + left.0) rest,
      inr (omega (arith, left.1)),
      sym (take-append-drop (got + left.0) rest),
      left.2 ∙ ap Some (drop-drop left.0 got rest),
    )

-- a whole record was taken
pub whole_record : (old cur new : Option (List ℕ)) (records got len : ℕ) (head octets : List ℕ) (item : DumpItem)
    → length head ≡ 8 → got ≤ 8 → Takes old cur got head → Ok len ≡ len_behind records (take got head)
    → length octets ≡ len → Takes cur new len octets → record_octets item ≡ head ++ octets
    → Loses old new (λ front. front ≡ record_octets item)
whole_record None cur new records got len head octets item size most taken e count behind spelled =
    let P : Option (List ℕ) → Type 0 = λ cur. Takes cur new len octets in
    subst P taken behind
whole_record (Some rest) cur new records got len head octets item size most taken e count behind spelled =
    let (full, says) = whole_head records got len head size most e in
    let same : head ≡ take 8 rest = head_is got head rest size full taken.0 in
    let P : Option (List ℕ) → Type 0 = λ cur. Takes cur new len octets in
    let left : Takes (Some (drop got rest)) new len octets = subst P taken.1 behind in
    let behind_is : octets ≡ take len (drop got rest) = sym (take_all len octets (omega arith)) ∙ left.0 in
    let front_is : head ≡ take got rest = same ∙ ap (λ (k : ℕ). take k rest) (sym full) in
    let tail : drop got rest ≡ octets ++ drop len (drop got rest) =
    sym (take-append-drop len (drop got rest)) ∙ ap (λ (o : List ℕ). o ++ drop len (drop got rest)) (sym behind_is) in
    let split : rest ≡ (head ++ octets) ++ drop len (drop got rest) =
    sym (take-append-drop got rest)
    ∙ ap (λ (front : List ℕ). front ++ drop got rest) (sym front_is)
    ∙ ap (λ (back : List ℕ). head ++ back) tail
    ∙ sym (append_assoc head octets (drop len (drop got rest))) in
    (_, drop len (drop got rest), refl, split ∙ ap (λ (front : List ℕ). front ++ drop len (drop got rest)) (sym spelled), left.1)

-- a record that was taken is what comes first
pub answers_record : (old new : Option (List ℕ)) (records at : ℕ) (item : DumpItem) → records < MAX_RECORDS → Fits item
    → Loses old new (λ front. front ≡ record_octets item)
    → IfSome old (λ rest. first (records_from (MAX_RECORDS - records) at rest) ≡ Ok (Some item))
answers_record None new records at item room fits lost = tt
answers_record (Some rest) new records at item room fits (front, left, spelled, split, after) =
    rw (split, spelled, one_more records room, records_from-record (MAX_RECORDS - (records + 1)) at item left fits) refl

-- an error is the same whatever an answer would be
pub err_same : {X Y E : Type 0} (fault other : E) → IsErrOf {T = X} (Err fault) other → IsErrOf {T = Y} (Err fault) other
err_same fault other e = ap Err (cc)
