-- What a reader is seen as, what it answers, and what is still ahead of it.
use Rattle.std.specs.Prelude.{◌≡◌, ◌≢◌, ℕ, ◌+◌, ◌-◌, ◌<◌, ◌≤◌, ◌⊎◌, List, [], ◌∷◌, ◌++◌, length, Option, Some, None, IfSome, Result, Ok, Err, IsOk, ◌==◌, nat_lt, if◌then◌else◌}
use Rattle.rtp_dump.specs.declared.item.TheConstants.{MAX_RECORDS}
use Rattle.rtp_dump.specs.declared.item.DumpItem.{DumpItem}
use Rattle.rtp_dump.specs.declared.faults.DumpFault.{DumpFault}
use Rattle.rtp_dump.specs.declared.faults.DumpFault.TheVariants.{Bad, Read, Memory}
use Rattle.rtp_dump.specs.declared.faults.DumpKind.{DumpKind}
use Rattle.rtp_dump.specs.declared.faults.DumpKind.TheVariants.{NotDump, TornHead, ShortLength, TooMany}
use Rattle.rtp_dump.specs.declared.faults.HeadEnd.{HeadEnd}
use Rattle.rtp_dump.specs.declared.faults.HeadEnd.TheVariants as head_end
use Rattle.rtp_dump.specs.declared.stage.Stage.{Stage}
use Rattle.rtp_dump.specs.declared.stage.Stage.TheVariants.{Fresh, Open, Ended, Stopped}
use Rattle.rtp_dump.specs.Spelling.{Placed, Fault, Capture, Fits, IsLine, length_word, record_octets}
use Rattle.rtp_dump.specs.Capture.{records_from}
use Rattle.rtp_dump.specs.Faults.{fault_of}

-- a reader: the loan of its source and the source as it stands, what was met, where the next record that is handed out begins and how
-- many were handed out before it, and that record where it was read already and is held back
pub record Reading (S : Type 0) : Type 0 where
  pub ghost_name : ℕ
  pub source : S
  pub stage : Stage
  pub place : ℕ
  pub records : ℕ
  pub held : Option DumpItem

-- the fault that was answered, and is answered from then on
abbrev pub fault_at : Stage → Option DumpFault
fault_at (Stopped fault) = Some fault
fault_at Fresh = None
fault_at Open = None
fault_at Ended = None

-- the octets of a record, if there is one
abbrev pub octets_of : Option DumpItem → List ℕ
octets_of None = []
octets_of (Some item) = record_octets item

-- the next record is held back and lies at or past this moment, or the capture has ended
abbrev pub IsLate : ℕ → Stage → Option DumpItem → Type 0
IsLate moment stage (Some item) = moment ≤ item.offset
IsLate moment stage None = stage ≡ Ended

module _ {S : Type 0} where
  -- nothing was read yet
  abbrev pub IsFresh : Reading S → Type 0
  IsFresh reader = reader.stage ≡ Fresh

  -- the line and the file head were read, or the attempt ended in a fault
  abbrev pub IsBegun : Reading S → Type 0
  IsBegun reader = reader.stage ≢ Fresh

  -- the fault that was answered, and is answered from then on
  abbrev pub answered : Reading S → Option DumpFault
  answered reader = fault_at reader.stage

  -- what is still to be handed out, where these octets stand from the next record's place on
  abbrev pub from_here : Reading S → List ℕ → Capture
  from_here reader octets = records_from (MAX_RECORDS - reader.records) reader.place octets

  -- what is still to be handed out, where the source still gives these octets
  abbrev pub ahead : Reading S → List ℕ → Capture
  ahead reader rest = from_here reader (octets_of reader.held ++ rest)

  -- no more records were handed out than a capture may have, and the one that is held back is whole and may follow them
  pub record IsSound (reader : Reading S) : Type 0 where
    pub few : reader.records ≤ MAX_RECORDS
    pub held : IfSome reader.held (λ item. Fits item × (reader.records < MAX_RECORDS))

  -- The reader after this answer to `head`, where the first record begins at this place.
  abbrev pub after_head : Reading S → Result (Unit {0}) HeadEnd → ℕ → S → Reading S
  after_head reader (Ok x) place source = record reader { source = source; stage = Open; place = place; records = 0 }
  after_head reader (Err end) place source = record reader { source = source; stage = Stopped (fault_of end) }

  -- The reader when this was fetched for an answer.
  abbrev pub fetched : Reading S → Result (Option DumpItem) DumpFault → S → Reading S
  fetched reader (Ok (Some item)) source = record reader { source = source; held = None }
  fetched reader (Ok None) source = record reader { source = source; stage = Ended }
  fetched reader (Err fault) source = record reader { source = source; stage = Stopped fault }

  -- The reader after this answer for a record, where this one is held back.
  abbrev pub after : Reading S → Result (Option DumpItem) DumpFault → Option DumpItem → S → Reading S
  after reader (Ok (Some item)) held source = record reader {
    source = source;
    place = reader.place + length (record_octets item);
    records = reader.records + 1;
    held = None;
  }
  after reader (Ok None) (Some item) source = record reader { source = source; held = Some item }
  after reader (Ok None) None source = record reader { source = source; stage = Ended }
  after reader (Err fault) held source = record reader { source = source; stage = Stopped fault }

-- what comes first in a capture: a record, its end, or its fault
abbrev pub first_of : List Placed → Option Fault → Result (Option DumpItem) Fault
first_of (placed ∷ others) fault = Ok (Some placed.item)
first_of [] None = Ok None
first_of [] (Some fault) = Err fault

abbrev pub first : Capture → Result (Option DumpItem) Fault
first capture = first_of capture.records capture.fault

-- a call for the next record answered this, unless a read failed or memory ran out
abbrev pub AnswersNext : Result (Option DumpItem) DumpFault → Result (Option DumpItem) Fault → Type 0
AnswersNext (Ok item) found = found ≡ Ok item
AnswersNext (Err (Bad at kind)) found = found ≡ Err (record { at = at; kind = kind })
AnswersNext (Err Read) found = Unit {0}
AnswersNext (Err Memory) found = Unit {0}

-- the same of a call for the next record before a moment, where this one is held back after it
abbrev pub AnswersBefore : Result (Option DumpItem) DumpFault → Option DumpItem → Result (Option DumpItem) Fault → Type 0
AnswersBefore (Ok (Some item)) held found = found ≡ Ok (Some item)
AnswersBefore (Ok None) held found = found ≡ Ok held
AnswersBefore (Err fault) held found = AnswersNext (Err fault) found

-- a call of `head` answered this, unless a read failed
abbrev pub AnswersHead : {X : Type 0} → Result X HeadEnd → Result ℕ Fault → Type 0
AnswersHead (Ok x) found = IsOk found
AnswersHead (Err (head_end.Bad at kind)) found = found ≡ Err (record { at = at; kind = kind })
AnswersHead (Err head_end.Read) found = Unit {0}

-- the line, or both the line and the file head, were read as this, unless a read failed
abbrev pub AnswersLine : Result ℕ HeadEnd → Result ℕ ℕ → Type 0
AnswersLine (Ok len) found = found ≡ Ok len
AnswersLine (Err (head_end.Bad at kind)) found = (kind ≡ NotDump) × (found ≡ Err at)
AnswersLine (Err head_end.Read) found = Unit {0}

abbrev pub AnswersOpening : Result ℕ HeadEnd → Result ℕ Fault → Type 0
AnswersOpening (Ok len) found = found ≡ Ok len
AnswersOpening (Err (head_end.Bad at kind)) found = found ≡ Err (record { at = at; kind = kind })
AnswersOpening (Err head_end.Read) found = Unit {0}

-- a line and a file head
abbrev pub IsOpening : List ℕ → Type 0
IsOpening front = (line head : List ℕ) × IsLine line × (length head ≡ 16) × (front ≡ line ++ head)

-- octets that a line and a file head begin with, and not the whole of them
abbrev pub IsPartOfOpening : List ℕ → Type 0
IsPartOfOpening front = (more : List ℕ) × (0 < length more) × IsOpening (front ++ more)

-- octets that a record begins with, and not the whole of it
abbrev pub IsPartOfRecord : List ℕ → Type 0
IsPartOfRecord front = (length front < 8) ⊎ (length front < length_word front)

-- how many octets follow a record's head, where so many records stand before it, or why this is none
abbrev pub len_behind : ℕ → List ℕ → Result ℕ DumpKind
len_behind records front =
    if records == MAX_RECORDS then Err TooMany
    else if nat_lt (length front) 8 then Err TornHead
    else if nat_lt (length_word front) 8 then Err ShortLength
    else Ok (length_word front - 8)
