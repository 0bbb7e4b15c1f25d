-- What was taken is the same whatever follows it.
use Rattle.std.proofs.Common.{◌≡◌, ◌<◌, ◌≤◌, ◌+◌, ◌-◌, ◌++◌, ◌∷◌, [], ℕ, zero, suc, List, length, take, drop, refl, sym, ap, ◌∙◌, subst, arith, Option, Some, None, Result, Ok, Err, inl, inr, append_assoc, length-append}
use Rattle.std.specs.Prelude.{IsErr}
use Rattle.std.proofs.lemmas.Bool.{cases_lt, lt-ltb}
use Rattle.std.proofs.lemmas.List.{take-append-drop, length-take}
use Rattle.edge_io.specs.Told.{Loses}
use Rattle.rtp_dump.specs.declared.item.TheConstants.{MAX_RECORDS}
use Rattle.rtp_dump.specs.declared.item.DumpItem.{DumpItem}
use Rattle.rtp_dump.specs.Spelling.{Fits, length_word, record_octets}
use Rattle.rtp_dump.specs.Capture.{before, capture, line_at, opening, opening_of, records_from}
use Rattle.rtp_dump.specs.Reading.{octets_of, IsOpening, IsPartOfOpening, IsPartOfRecord}
use Rattle.rtp_dump.proofs.Records.{length-record_octets, records_from-end, records_from-record, records_from-short, records_from-too_many, records_from-torn, records_from-torn_head}
use Rattle.rtp_dump.proofs.Lines.{LineFact, line_at-fact}
use Rattle.rtp_dump.proofs.LineLaws.{is_line, line_at-line}
use Rattle.rtp_dump.proofs.CaptureLaws.{capture-file}

opening-more : (front : List ℕ) (len : ℕ) → IsOpening front → length front ≡ len → (more : List ℕ) → capture (front ++ more) ≡ records_from MAX_RECORDS len more
opening-more front len (line, head, is_line, long, spelled) size more =
    let same : length line + 16 ≡ len = omega (arith, ap length spelled, length-append line head) in
    ap (λ (xs : List ℕ). capture (xs ++ more)) spelled
    ∙ ap capture (append_assoc line head more)
    ∙ capture-file line head more is_line long
    ∙ ap (λ (n : ℕ). records_from MAX_RECORDS n more) same

-- a line and a file head, whatever follows them, and a reader that stands behind them and holds nothing back
pub opening_ahead : (old new : Option (List ℕ)) (len at records : ℕ) (held : Option DumpItem) → at ≡ len → records ≡ 0 → held ≡ None
    → Loses old new (λ front. IsOpening front × (length front ≡ len))
    → Loses old new (λ front. IsOpening front
    × ((more : List ℕ) → capture (front ++ more) ≡ records_from (MAX_RECORDS - records) at (octets_of held ++ more)))
opening_ahead None new len at records held place none holds lost = lost
opening_ahead (Some rest) new len at records held place none holds (front, after, (is, size), split, left_is) =
    (front, after, (is, λ more. rw (place, none, holds) (opening-more front len is size more)), split, left_is)

-- a record, whatever follows it
pub record_follows : (records at next_records next_at : ℕ) (item : DumpItem) → records < MAX_RECORDS → Fits item
    → next_at ≡ at + length (record_octets item) → next_records ≡ records + 1
    → (more : List ℕ) → records_from (MAX_RECORDS - records) at (record_octets item ++ more)
    ≡ before (record { at = at; item = item }) (records_from (MAX_RECORDS - next_records) next_at more)
record_follows records at next_records next_at item room fits place count more =
    let one : MAX_RECORDS - records ≡ suc (MAX_RECORDS - (records + 1)) = omega arith in
    let len : next_at ≡ at + (length item.octets + 8) = omega (arith, place, length-record_octets item) in
    rw (len, count, one) (records_from-record (MAX_RECORDS - (records + 1)) at item more fits)

-- a part of a record has no record
pub part_has_none : (allowed at : ℕ) (front : List ℕ) → IsPartOfRecord front → (records_from allowed at front).records ≡ []
part_has_none allowed at [] part = ap (λ c. c.records) (records_from-end allowed at)
part_has_none zero at (b ∷ front) part = ap (λ c. c.records) (records_from-too_many at (b ∷ front) (omega arith))
part_has_none (suc n) at (b ∷ front) (inl few) = ap (λ c. c.records) (records_from-torn_head n at (b ∷ front) (omega arith) few)
part_has_none (suc n) at (b ∷ front) (inr torn) =
    elim (cases_lt (length (b ∷ front)) 8) [
      | inl few ↦ ap (λ c. c.records) (records_from-torn_head n at (b ∷ front) (omega arith) few)
      | inr long ↦ elim (cases_lt (length_word (b ∷ front)) 8) [
        | inl short ↦ ap (λ c. c.records) (records_from-short n at (b ∷ front) long short)
        | inr word ↦ ap (λ c. c.records) (records_from-torn n at (b ∷ front) long word torn)
      ]
    ]

torn_by : (front : List ℕ) (found : Result ℕ ℕ) → line_at front ≡ found → LineFact front found → IsPartOfOpening front → IsErr (opening front)
torn_by front (Err at) e fact part = let P : Result ℕ ℕ → Type 0 = λ r. IsErr (opening_of r front) in subst P (sym e) refl
torn_by front (Ok len) e fact (more, some, (line, head, line_is, long, split)) =
    let whole : front ++ more ≡ take len front ++ (drop len front ++ more) =
    ap (λ (xs : List ℕ). xs ++ more) (sym (take-append-drop len front)) ∙ append_assoc (take len front) (drop len front) more in
    let one : line_at (front ++ more) ≡ Ok (length (take len front)) =
    ap line_at whole ∙ line_at-line (take len front) (drop len front ++ more) (is_line front len fact) in
    let other : line_at (front ++ more) ≡ Ok (length line) = ap line_at split ∙ line_at-line line head line_is in
    let same : length (take len front) ≡ length line = cc in
    let long' : len ≤ length front = fact.2 in
    let short : length front < len + 16 = omega (arith, length-take len front, ap length split, length-append front more, length-append line head) in
    let P : Result ℕ ℕ → Type 0 = λ r. IsErr (opening_of r front) in
    subst P (sym e) (rw (lt-ltb (length front) (len + 16) short) refl)

-- a part of a line and a file head isn't one
pub part_is_torn : (front : List ℕ) → IsPartOfOpening front → IsErr (opening front)
part_is_torn front part = torn_by front (line_at front) refl (line_at-fact front) part
