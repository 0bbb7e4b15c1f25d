-- What a reader that holds a record back, or has met the capture's end, is still to hand out.
use Rattle.std.proofs.Common.{◌≡◌, ◌<◌, ◌+◌, ◌-◌, ◌++◌, ◌∷◌, [], ℕ, suc, List, length, min, refl, ap, arith, Option, Some, None, Ok}
use Rattle.std.specs.Prelude.{IfSome, IfNone}
use Rattle.edge_io.specs.Told.{Takes}
use Rattle.rtp_dump.specs.declared.item.TheConstants.{MAX_RECORDS}
use Rattle.rtp_dump.specs.declared.item.DumpItem.{DumpItem}
use Rattle.rtp_dump.specs.declared.faults.DumpFault.{DumpFault}
use Rattle.rtp_dump.specs.declared.stage.Stage.{Stage}
use Rattle.rtp_dump.specs.declared.stage.Stage.TheVariants.{Fresh, Open, Ended}
use Rattle.rtp_dump.specs.Spelling.{Fits, record_octets}
use Rattle.rtp_dump.specs.Capture.{records_from}
use Rattle.rtp_dump.specs.Reading.{first, octets_of}
use Rattle.rtp_dump.proofs.Records.{records_from-end, records_from-record}

-- a record is held back among the records only
pub fresh_holds : (stage : Stage) (held : Option DumpItem) → stage ≡ Fresh → IfSome held (λ item. stage ≡ Open) → held ≡ None
fresh_holds stage None fresh among = refl
fresh_holds stage (Some item) fresh among = absurd (cc)

pub ended_holds : (stage : Stage) (held : Option DumpItem) → stage ≡ Ended → IfSome held (λ item. stage ≡ Open) → held ≡ None
ended_holds stage None over among = refl
ended_holds stage (Some item) over among = absurd (cc)

-- where a read gave nothing, nothing is left
pub nothing_left : (old new : Option (List ℕ)) (got : ℕ) (buf : List ℕ) → IfSome old (λ octets. got ≡ min (length octets) 8) → got ≡ 0
    → Takes old new got buf → IfSome new (λ octets. octets ≡ [])
nothing_left None new got buf told none taken = rw taken tt
nothing_left (Some []) new got buf told none taken = rw (taken.1, none) refl
nothing_left (Some (b ∷ rest)) new got buf told none taken = absurd (omega arith)

-- the record that is held back comes first
held_first : (records at : ℕ) (item : DumpItem) (rest : List ℕ) → records < MAX_RECORDS → Fits item
    → first (records_from (MAX_RECORDS - records) at (record_octets item ++ rest)) ≡ Ok (Some item)
held_first records at item rest room fits =
    let one : MAX_RECORDS - records ≡ suc (MAX_RECORDS - (records + 1)) = omega arith in
    rw (one, records_from-record (MAX_RECORDS - (records + 1)) at item rest fits) refl

pub held_answers : (told : Option (List ℕ)) (fault : Option DumpFault) (records at : ℕ) (held : Option DumpItem) (item : DumpItem) → held ≡ Some item
    → IfSome held Fits → IfSome held (λ item. records < MAX_RECORDS)
    → IfNone fault (IfSome told (λ rest. first (records_from (MAX_RECORDS - records) at (octets_of held ++ rest)) ≡ Ok (Some item)))
held_answers told (Some fault) records at held item is fits room = tt
held_answers None None records at held item is fits room = tt
held_answers (Some rest) None records at held item is fits room =
    let whole : Fits item = rw is at fits in
    let may : records < MAX_RECORDS = rw is at room in
    rw is (held_first records at item rest may whole)

-- after the capture's end there is no more
pub ended_answers : (told : Option (List ℕ)) (fault : Option DumpFault) (records at : ℕ) (held : Option DumpItem) → held ≡ None
    → IfSome told (λ octets. octets ≡ [])
    → IfNone fault (IfSome told (λ rest. first (records_from (MAX_RECORDS - records) at (octets_of held ++ rest)) ≡ Ok None))
ended_answers told (Some fault) records at held none over = tt
ended_answers None None records at held none over = tt
ended_answers (Some rest) None records at held none over =
    rw (none, over) (ap first (records_from-end (MAX_RECORDS - records) at))
